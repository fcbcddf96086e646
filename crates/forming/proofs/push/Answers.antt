use Rattle.forming.proofs.Pushing.{none_test, others_asked, tests_asked, pushed_both}
use Rattle.forming.proofs.push.Goals as goal

pub push_all-requires : goal.push_all-requires
push_all-requires c = c.requires

pub returns-then-tests-eq0 : goal.returns-then-tests-eq0
returns-then-tests-eq0 c = none_test _ _ _ _ _ _ _ _ _ c.requires c.if-tests-eq0.true _ _ c.push_all.ensures

pub push_where-others-requires : goal.push_where-others-requires
push_where-others-requires c = others_asked _ _ _ _ _ _ _ _ _ c.requires

pub push_where-all-requires : goal.push_where-all-requires
push_where-all-requires c = tests_asked _ _ _ _ _ _ _ _ _ c.requires _ _ c.push_where-others.ensures

pub returns : goal.returns
returns c =
    pushed_both _ _ _ _ _ _ _ _ _ c.requires _ _ c.push_where-others.ensures _ _ c.push_where-all.ensures
