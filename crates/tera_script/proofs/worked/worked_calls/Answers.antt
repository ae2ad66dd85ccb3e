use Rattle.std.proofs.Common.{refl, Some, [], ◌∷◌, arith, lit≤}
use Rattle.std.specs.Prelude.{codes}
use Rattle.std.specs.FinMap.{insert, empty}
use Rattle.tera_meaning.specs.Conversion.{u8}
use Rattle.tera_meaning.specs.Integer.{i64}
use Rattle.tera_meaning.specs.KeyMeaning.{text_key, owned}
use Rattle.tera_meaning.specs.Tree.{number, object, members, no_members, member}
use Rattle.tera_script.specs.Line.{levels}
use Rattle.tera_script.specs.Text.{itself}
use Rattle.tera_script.specs.Readers.{name_at, operand_at, gap_at, names_at, into_in, bounds_at, bound_at, bound_in, small_in, digits_at}
use Rattle.tera_script.specs.declared.verb.Verb.TheVariants as verb
use Rattle.tera_script.proofs.Rows.{says_named, says_given, bounds_given, type_given, source_given, one_named, tree_at, key_at, pair_at, one, one_spelled}
use Rattle.tera_script.proofs.Literals.{literal_found}
use Rattle.tera_script.proofs.worked.worked_calls.Goals as goal

pub returns : goal.returns
unfolding name_at operand_at gap_at names_at into_in bounds_at bound_at bound_in small_in digits_at
returns c = record {
  eq = says_named verb.Equal refl refl refl refl;
  cmp = says_named verb.Compare refl refl refl refl;
  try_cmp = says_named verb.TryCompare refl refl refl refl;
  print = says_named verb.Print refl refl refl refl;
  remove = says_named verb.Remove refl refl refl refl;
  has = says_named verb.Has refl refl refl refl;
  get = says_named verb.Get refl refl refl refl;
  len = says_named verb.Len refl refl refl refl;
  truthy = says_named verb.Truthy refl refl refl refl;
  kind = says_named verb.Kind refl refl refl refl;
  is_safe = says_named verb.IsSafe refl refl refl refl;
  mark_safe = says_named verb.MarkSafe refl refl refl refl;
  escape = says_named verb.Escape refl refl refl refl;
  walk = says_named verb.Walk refl refl refl refl;
  slice = says_given verb.Slice refl (bounds_given (codes " a 1 _ -1") {name = codes "a"} {at_bounds = codes " 1 _ -1"} {rest = []} refl refl) refl refl;
  read = says_given verb.Read refl (type_given (codes " u8 a") u8 {name = codes "a"} {rest = []} refl) refl refl;
  extend =
      let pairs = (text_key (owned (codes "b")), number (one i64)) ∷ [] in
      says_given verb.Extend refl (source_given (codes " {\"b\": 1}") pairs (insert empty (codes "b") (number (one i64))) refl
      (literal_found levels (codes "{\"b\": 1}") (Some (object (members pairs), [])) (
        member (text_key (owned (codes "b"))) (number (one i64)) no_members,
        refl,
        (
          _,
          pair_at (key_at (codes "\"b\"") (codes "b", (itself 98 ∷ [], search arith, refl, refl), refl) refl) refl
              (tree_at (codes "1") one_spelled refl),
          refl,
        ),
        lit≤ tt,
      )) (one_named (codes "b") (number (one i64)))) refl refl;
}
