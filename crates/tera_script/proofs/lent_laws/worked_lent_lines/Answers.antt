use Rattle.std.proofs.Common.{refl, [], ◌∷◌, ap, arith, subst}
use Rattle.std.specs.Prelude.{codes}
use Rattle.tera_script.specs.Line.{BringsNothing}
use Rattle.tera_script.specs.Readers.{name_at, operand_at, gap_at, into_in}
use Rattle.tera_script.specs.Text.{itself}
use Rattle.tera_script.specs.declared.verb.Verb.TheVariants as verb
use Rattle.tera_script.proofs.Rows.{has_no_escape, says_given, text_given}
use Rattle.tera_script.proofs.lent_laws.worked_lent_lines.Goals as goal

pub returns : goal.returns
unfolding name_at operand_at gap_at into_in
returns c = record {
  name = (has_no_escape (codes "get a") refl, (_, c.worked_calls.ensures.get, tt));
  names = (has_no_escape (codes "eq a b") refl, (_, c.worked_calls.ensures.eq, tt));
  bounds = (has_no_escape (codes "slice a 1 _ -1") refl, (_, c.worked_calls.ensures.slice, tt));
  spaced = (has_no_escape (codes "mark_safe a\t->  a ") refl, (_, c.worked_names.ensures.mark_safe, tt));
  text =
      let given = text_given (codes " a \"[b]\"") {name = codes "a"} refl refl (codes "[b]") []
      (codes "[b]", _, (itself 91 ∷ itself 98 ∷ itself 93 ∷ [], search arith, refl, refl), refl, refl) in
      (has_no_escape (codes "attr a \"[b]\"") refl, (_, says_given verb.Attr refl given refl refl, tt));
  escape = λ lent. absurd (lent.0.1.1.1.1.1.1.1.1.0 refl);
  value = λ lent.
      absurd (subst BringsNothing (ap (λ command. command.request) (c.one_command.ensures _ _ _ lent.1.1 c.worked_values.ensures.no_suffix)) lent.1.2);
}
