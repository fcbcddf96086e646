-- Where a pattern holds union and munion patterns.
use Rattle.std.specs.Prelude.{Bool, true, false, not, ◌&&◌, ◌||◌, cond}
use Rattle.patterns.specs.Pattern.{Pattern, name, any, literal, each, halved, Patterns, nil, cons, is_unordered}

-- The pattern holds a union or munion pattern, at any depth.
unfoldable mutual
  pub has_split : Pattern → Bool
  has_split (name x) = false
  has_split any = false
  has_split (literal w) = false
  has_split (each k ps) = some_split ps
  has_split (halved k p q) = is_unordered k || (has_split p || has_split q)

  pub some_split : Patterns → Bool
  some_split nil = false
  some_split (cons p ps) = has_split p || some_split ps

-- Every union or munion pattern that it holds is it itself or a half of such: all of them meet parts of one set or map.
unfoldable pub shallow : Pattern → Bool
shallow (name x) = true
shallow any = true
shallow (literal w) = true
shallow (each k ps) = not (some_split ps)
shallow (halved k p q) = cond (is_unordered k) (shallow p && shallow q) (not (has_split p || has_split q))
