-- `put_part`: a whole record is copied; of any other part the items are, and then its heading is written before them.
use Rattle.parts.proofs.Putting.{whole_copyable, whole_put, puttable_held, puttable_collection, puttable_run, heading_fits, headed_put}
use Rattle.parts.proofs.put_part.Goals as goal

pub copy_value-requires : goal.copy_value-requires
copy_value-requires c = whole_copyable c.requires c.in-Whole.is

pub returns-in-Whole : goal.returns-in-Whole
returns-in-Whole c = whole_put c.requires c.in-Whole.is c.copy_value.ensures

pub kind_of_part-kind-requires : goal.kind_of_part-kind-requires
kind_of_part-kind-requires c = puttable_held c.requires

pub run_of-r-requires : goal.run_of-r-requires
run_of-r-requires c = puttable_collection c.requires c.in_default.not-Whole

pub put-end-requires : goal.put-end-requires
put-end-requires c = puttable_run c.requires c.in_default.not-Whole c.run_of-r.ensures

pub overflow_sub-end : goal.overflow_sub-end
overflow_sub-end c =
    (heading_fits c.requires c.in_default.not-Whole c.kind_of_part-kind.ensures c.run_of-r.ensures c.put-end.ensures).0

pub put_head-requires : goal.put_head-requires
put_head-requires c =
    let x = heading_fits c.requires c.in_default.not-Whole c.kind_of_part-kind.ensures c.run_of-r.ensures c.put-end.ensures in
    (x.1, x.2, x.3)

pub returns : goal.returns
returns c =
    headed_put c.requires c.in_default.not-Whole c.kind_of_part-kind.ensures c.run_of-r.ensures c.put-end.ensures c.put_head.ensures
