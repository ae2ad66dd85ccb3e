-- An attribute is found by meaning, and is well made.
use Rattle.std.proofs.Common.{refl, rules}
use Rattle.std.specs.Option.{option_map}
use Rattle.std.specs.Prelude.{◌≡◌, ℕ, List, Option, None, refl, IfSome}
use Rattle.tera_meaning.specs.Form.{Form}
use Rattle.tera_meaning.specs.KeyMeaning.{text_key, key_order, borrowed}
use Rattle.tera_meaning.specs.Lookup.{attr}
use Rattle.tera_meaning.specs.Meaning.{layout, meaning, Meaning}
use Rattle.tera_meaning.specs.Pairs.{value_at}
use Rattle.tera_meaning.specs.Tree.{object, members_list}
use Rattle.tera_meaning.specs.WellMade.{IsWellMade}
use Rattle.tera_meaning.proofs.MeaningLaws.{found_laid_out, found_pair}
use Rattle.tera_meaning.proofs.SoundLemmas.{sound_pair}

attr_meant : Meaning → List ℕ → Option Meaning
attr_meant (object ps) t = value_at key_order (members_list ps) (text_key t)
attr_meant v t = None

attr_as_meant : (v : Form) (t : List ℕ) → option_map meaning (attr v t) ≡ attr_meant (meaning v) t
unfolding attr_meant
attr_as_meant (object ps) t = found_pair ps (text_key t)
attr_as_meant v t = refl

pub by_meaning : (t : List ℕ) (v w : Form) → meaning v ≡ meaning w → option_map meaning (attr v t) ≡ option_map meaning (attr w t)
by_meaning t v w e = search (rules, attr_as_meant)

attr_as_laid_out : (v : Form) (t : List ℕ) → option_map layout (attr v t) ≡ attr_meant (layout v) t
unfolding attr_meant
attr_as_laid_out (object ps) t = found_laid_out ps (text_key t)
attr_as_laid_out v t = refl

pub by_layout : (t : List ℕ) (v w : Form) → layout v ≡ layout w → option_map layout (attr v t) ≡ option_map layout (attr w t)
by_layout t v w e = search (rules, attr_as_laid_out)

pub well_made : (t : List ℕ) (v : Form) → IsWellMade v → IfSome (attr v t) IsWellMade
well_made t (object ps) h = sound_pair ps (text_key (borrowed t)) h.1
well_made t v h = tt
