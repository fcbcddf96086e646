-- `kind_of_part`: a span is a sequence, any other part of the kind of the record at its place.
use Rattle.parts.proofs.Parting.{record_of, kind_spans, kind_record}
use Rattle.parts.proofs.kind_of_part.Goals as goal

pub returns-in-Span : goal.returns-in-Span
returns-in-Span c = kind_spans c.in-Span.is

pub kind_of-requires : goal.kind_of-requires
kind_of-requires c = record_of c.in_default.not-Span c.requires.here

pub returns-in_default : goal.returns-in_default
returns-in_default c = kind_record c.in_default.not-Span c.kind_of.ensures
