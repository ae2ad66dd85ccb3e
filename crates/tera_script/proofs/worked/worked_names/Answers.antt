use Rattle.std.proofs.Common.{refl, Some, lit≤}
use Rattle.std.specs.Prelude.{codes}
use Rattle.tera_meaning.specs.Integer.{i64}
use Rattle.tera_meaning.specs.Tree.{number}
use Rattle.tera_script.specs.Readers.{name_at, operand_at, gap_at, one_in, arrow_at, into_in}
use Rattle.tera_script.specs.Verb.{row_of}
use Rattle.tera_script.specs.declared.verb.Verb.TheVariants as verb
use Rattle.tera_script.proofs.Commands.{no_into}
use Rattle.tera_script.proofs.Rows.{says_named, bad_call, bad_into, value_given, tree_at, one, one_spelled}
use Rattle.tera_script.proofs.worked.worked_names.Goals as goal

pub returns : goal.returns
unfolding name_at operand_at gap_at one_in arrow_at into_in
returns c = record {
  get = says_named verb.Get refl refl refl refl;
  mark_safe = says_named verb.MarkSafe refl refl refl refl;
  has = bad_into verb.Has refl refl refl refl;
  print = bad_into verb.Print refl refl refl refl;
  walk = bad_into verb.Walk refl refl refl refl;
  set = bad_call verb.Set refl refl (no_into (row_of verb.Set) (codes " a 1 -> b") (codes "a", number (one i64)) (codes " -> b")
      (value_given (codes " a 1 -> b") {name = codes "a"} {at_value = codes " 1 -> b"} {literal = codes "1 -> b"} refl refl
      (Some (number (one i64), codes " -> b"))
      (number (one i64), refl, tree_at (codes "1") one_spelled refl, refl, lit≤ tt)) refl);
  nothing = bad_into verb.Get refl refl refl refl;
  no_gap_before = bad_into verb.Get refl refl refl refl;
  no_gap_behind = bad_into verb.Get refl refl refl refl;
  two = bad_into verb.Get refl refl refl refl;
}
