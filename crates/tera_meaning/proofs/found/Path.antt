-- What is behind a path is found by meaning, and is well made.
use Rattle.std.proofs.Common.{sym, ap, ◌∙◌, rules}
use Rattle.std.proofs.lemmas.Option.{slice_get-map}
use Rattle.std.specs.Option.{option_map, option_and_then}
use Rattle.std.specs.Prelude.{◌≡◌, ℕ, List, [], Option, Some, None, ◌∷◌, slice_get, IfSome}
use Rattle.tera_meaning.specs.Form.{Form}
use Rattle.tera_meaning.specs.Meaning.{Layout, layout, meaning, Meaning}
use Rattle.tera_meaning.specs.Path.{path, followed, reached, place}
use Rattle.tera_meaning.specs.Read.{items_in}
use Rattle.tera_meaning.specs.Tree.{undefined, none, array, items_list}
use Rattle.tera_meaning.specs.WellMade.{IsWellMade}
use Rattle.tera_meaning.proofs.MeaningLaws.{items_laid_out, items_meant}
use Rattle.tera_meaning.proofs.SoundLemmas.{Sound, sound_place}
use Rattle.tera_meaning.proofs.found.Attr

place_meant : Meaning → ℕ → Option Meaning
place_meant (array xs) n = slice_get (items_list xs) n
place_meant v n = None

placed_as_meant : (v : Form) (n : ℕ) → option_map meaning (option_and_then (λ xs. slice_get xs n) (items_in v)) ≡ place_meant (meaning v) n
unfolding place_meant
placed_as_meant v n = search (rules, slice_get-map, items_meant)

reached_by_meaning : (v w : Form) (e : List ℕ) (p : Option ℕ) → meaning v ≡ meaning w → option_map meaning (reached v e p) ≡ option_map meaning (reached w e p)
reached_by_meaning v w e None same = Attr.by_meaning e v w same
reached_by_meaning v w e (Some n) same = placed_as_meant v n ∙ ap (λ x. place_meant x n) same ∙ sym (placed_as_meant w n)

and_then : (o p : Option Form) (k : Form → Option Form) → option_map meaning o ≡ option_map meaning p
    → ((x y : Form) → meaning x ≡ meaning y → option_map meaning (k x) ≡ option_map meaning (k y))
    → option_map meaning (option_and_then k o) ≡ option_map meaning (option_and_then k p)
and_then x0 x1 k e h = search rules

followed_by_meaning : (es : List (List ℕ)) (v w : Form) → meaning v ≡ meaning w → option_map meaning (followed v es) ≡ option_map meaning (followed w es)
followed_by_meaning [] v w same = ap Some same
followed_by_meaning (e ∷ es) v w same = search (rules, and_then, reached_by_meaning, (followed_by_meaning es))

-- undefined leads nowhere, none to itself, and all else to what is followed
led : {X : Type 0} → Meaning → X → Option X → Option X
led undefined itself o = None
led none itself o = Some itself
led x itself o = o

led_as_meant : (x : Meaning) (o : Option Form) → option_map meaning (led x none o) ≡ led x none (option_map meaning o)
unfolding led
led_as_meant v o = search rules

pub by_meaning : (p : List ℕ) (v w : Form) → meaning v ≡ meaning w → option_map meaning (path v p) ≡ option_map meaning (path w p)
by_meaning p v w same = search (rules, led_as_meant, led, followed_by_meaning)

-- ---- by layout

placed_as_laid_out : (v : Form) (n : ℕ) → option_map layout (option_and_then (λ xs. slice_get xs n) (items_in v)) ≡ place_meant (layout v) n
unfolding place_meant
placed_as_laid_out v n = search (rules, slice_get-map, items_laid_out)

reached_by_layout : (v w : Form) (e : List ℕ) (p : Option ℕ) → layout v ≡ layout w → option_map layout (reached v e p) ≡ option_map layout (reached w e p)
reached_by_layout v w e None same = Attr.by_layout e v w same
reached_by_layout v w e (Some n) same = placed_as_laid_out v n ∙ ap (λ x. place_meant x n) same ∙ sym (placed_as_laid_out w n)

then_laid_out : (o p : Option Form) (k : Form → Option Form) → option_map layout o ≡ option_map layout p
    → ((x y : Form) → layout x ≡ layout y → option_map layout (k x) ≡ option_map layout (k y))
    → option_map layout (option_and_then k o) ≡ option_map layout (option_and_then k p)
then_laid_out x0 x1 k e h = search rules

followed_by_layout : (es : List (List ℕ)) (v w : Form) → layout v ≡ layout w → option_map layout (followed v es) ≡ option_map layout (followed w es)
followed_by_layout [] v w same = ap Some same
followed_by_layout (e ∷ es) v w same = search (rules, then_laid_out, reached_by_layout, (followed_by_layout es))

led_as_laid_out : (x : Layout) (o : Option Form) → option_map layout (led x none o) ≡ led x none (option_map layout o)
unfolding led
led_as_laid_out v o = search rules

pub by_layout : (p : List ℕ) (v w : Form) → layout v ≡ layout w → option_map layout (path v p) ≡ option_map layout (path w p)
by_layout p v w same = search (rules, led_as_laid_out, led, followed_by_layout)

-- ---- well made

sound_reached : (v : Form) (e : List ℕ) (p : Option ℕ) → IsWellMade v → Sound (reached v e p)
sound_reached v e None h = Attr.well_made e v h
sound_reached (array xs) e (Some n) h = sound_place xs n h
sound_reached v e (Some n) h = tt

sound_then : (o : Option Form) (k : Form → Option Form) → Sound o → ((x : Form) → IsWellMade x → Sound (k x)) → Sound (option_and_then k o)
sound_then x0 k h g = search rules

sound_followed : (es : List (List ℕ)) (v : Form) → IsWellMade v → Sound (followed v es)
sound_followed [] v h = h
sound_followed (e ∷ es) v h = sound_then (reached v e (place e)) (λ part. followed part es) (sound_reached v e (place e) h) (λ x g. sound_followed es x g)

pub well_made : (p : List ℕ) (v : Form) → IsWellMade v → IfSome (path v p) IsWellMade
well_made p v h = search (rules, sound_followed)
