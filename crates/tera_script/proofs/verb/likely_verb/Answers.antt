use Rattle.std.proofs.Common.{◌≡◌, false, true, arith}
use Rattle.tera_script.specs.declared.verb.Verb.{Verb}
use Rattle.tera_script.specs.declared.verb.Verb.TheVariants.{Set}
use Rattle.tera_script.specs.inner.Call.{IsLike}
use Rattle.tera_script.specs.Verb.{word_of}
use Rattle.tera_script.proofs.verb.likely_verb.Goals as goal

pub returns-in_default-clause-found : goal.returns-in_default-clause-found
returns-in_default-clause-found c = each
  where
    each : (verb : Verb) → IsLike (word_of verb) c.args.len c.args.first c.args.second → false ≡ true
    each Set like = grind arith
    each verb like = grind arith
