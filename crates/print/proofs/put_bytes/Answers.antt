-- The part is as long as the text.
use mathlib.Core.Path.{refl}
use native.Mathlib.Omega.{arith}
use Rattle.print.proofs.Writing.{wrote_part}
use Rattle.print.proofs.put_bytes.Goals as goal

pub returns : goal.returns
returns c =
    record {
      bytes_set = wrote_part c.args.out.now c.args.bytes.now c.copy_from_slice.new.self c.args.at _ c.requires c.copy_from_slice.ensures.after (omega arith);
      ends = refl;
    }
