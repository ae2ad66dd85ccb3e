-- Commands that are passed.
use Rattle.std.proofs.Common.{◌≡◌, ℕ, List, Option, Some, None, refl, ap, sym, ◌∙◌, subst}
use Rattle.std.specs.Prelude.{IsSome, MatchResult, Result, Ok, Err}
use Rattle.tera_meaning.specs.Request.{Command}
use Rattle.tera_script.specs.Readers.{into_in, name_at}
use Rattle.tera_script.specs.Verb.{Given, row_of, word_of}
use Rattle.tera_script.specs.inner.Call.{IsKnown, IsOfShape}
use Rattle.tera_script.specs.inner.Command.{AreOperandsOf, IsGivenAt}
use Rattle.tera_script.specs.inner.Passed.{IsCommandPassed}
use Rattle.tera_script.specs.declared.verb.Known.{Known}
use Rattle.tera_script.proofs.Commands.{answered, command_answer, no_operands, nothing_behind}

module _ (known : Known) (k : IsKnown known) (operands : List ℕ) where
  of_its_shape : IsOfShape known known.shape
  of_its_shape = record { is = k; shaped = refl }

  pub no_operands_passed : IsGivenAt known.shape operands None → AreOperandsOf (row_of known.verb) operands None
  no_operands_passed none = no_operands of_its_shape none

  module _ (rest : List ℕ) (given : Given known.shape) (found : IsGivenAt known.shape operands (Some (given, rest))) where
    pub none_behind : into_in known.keeps rest ≡ None → AreOperandsOf (row_of known.verb) operands None
    none_behind e = nothing_behind of_its_shape found (sym e)

    pub some_behind : IsSome (into_in known.keeps rest) → (command : Command) × AreOperandsOf (row_of known.verb) operands (Some command)
    some_behind some = go (into_in known.keeps rest) refl some
      where
        go : (into : Option (Option (List ℕ))) → into_in known.keeps rest ≡ into → IsSome into
            → (command : Command) × AreOperandsOf (row_of known.verb) operands (Some command)
        go (Some into) e some =
            let t = subst (λ s. (g : Given s) × IsGivenAt s operands (Some (g, rest))) (sym k.0) (given, found) in
            (_, answered (row_of known.verb) operands t.0 rest t.1 into (ap (λ keeps. into_in keeps rest) k.1 ∙ e))
        go None e some = cc

pub command_passed : (bytes : List ℕ) {word operands : List ℕ} → name_at bytes ≡ Some (word, operands) → (known : Known)
    → word_of known.verb ≡ word → IsKnown known
    → (rest : List ℕ) (given : Given known.shape) → IsGivenAt known.shape operands (Some (given, rest)) → {R E : Type 0} (result : Result R E)
    → MatchResult result (λ _. IsSome (into_in known.keeps rest)) (λ _. into_in known.keeps rest ≡ None) → IsCommandPassed bytes result
command_passed bytes {operands = operands} n known v k rest given found (Ok done) some =
    let behind = some_behind known k operands rest given found some in
    (behind.0, command_answer bytes n known.verb v (Some behind.0) behind.1)
command_passed bytes {operands = operands} n known v k rest given found (Err stop) none =
    command_answer bytes n known.verb v None (none_behind known k operands rest given found none)
