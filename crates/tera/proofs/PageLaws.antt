-- What a page shows of a value, by the text that it prints.
use Rattle.std.specs.Prelude.{◌≡◌, ℕ, Bool, true, false, List, Result, Ok, Err, if◌then◌else◌, refl}
use Rattle.std.proofs.Common.{ap, subst, sym, ◌∙◌}
use Rattle.tera_meaning.proofs.QuotedLaws.{alone_exact, alone_prints}
use Rattle.tera_meaning.specs.Form.{Form}
use Rattle.tera_meaning.specs.Meaning.{layout}
use Rattle.tera_meaning.specs.Printed.{IsExact, printed, shown_in_page}
use Rattle.tera_meaning.specs.Quoted.{Prints}
use Rattle.tera_meaning.specs.Read.{safe_in}
use Rattle.tera_report.proofs.EscapeLaws.{Spells-escaped, spelling_is_escaped}
use Rattle.tera_report.specs.Escaping.{escaped}
use Rattle.tera_report.specs.Sink.{Puts, PutsThese}
use Rattle.tera.proofs.SpellingLaws.{special_begin_entities}
use Rattle.tera.specs.Entities.{SpecialBeginEntities}
use Rattle.tera.specs.InPage.{ShowsInPage, StandsFor}

-- the escaped bytes of a text stand for it where it is not safe
stands_escaped : (is_safe : Bool) (text shown : List ℕ) → is_safe ≡ false → shown ≡ escaped text → StandsFor is_safe shown text
stands_escaped true text shown unsafe is = absurd (cc)
stands_escaped false text shown unsafe is = subst (λ s. StandsFor false s text) (sym is) (Spells-escaped text)

standing : (is_safe : Bool) (shown text known : List ℕ) → StandsFor is_safe shown text → text ≡ known
    → shown ≡ (if is_safe then known else escaped known)
standing true shown text known stands is = stands ∙ is
standing false shown text known stands is = spelling_is_escaped shown text stands ∙ ap escaped is

-- a value with one printed text shows one text
pub shown_exact : (value : Form) (shown : List ℕ) → IsExact (layout value) → ShowsInPage value shown → shown ≡ shown_in_page value
shown_exact value shown exact (text, prints, stands) =
    standing (safe_in value) shown text (printed (layout value)) stands (alone_exact (layout value) text exact prints)

-- so a call that puts what the value shows puts that
pub puts_exact : {S E : Type 0} (takes fails : S → List ℕ → S → Type 0) (result : Result (Unit {0}) E) (value : Form) (old new : S)
    → IsExact (layout value) → Puts takes fails result (ShowsInPage value) old new → PutsThese takes fails result (shown_in_page value) old new
puts_exact takes fails (Ok done) value old new exact (shown, shows, took) = subst (λ l. takes old l new) (shown_exact value shown exact shows) took
puts_exact takes fails (Err fault) value old new exact (shown, shows, failed) = subst (λ l. fails old l new) (shown_exact value shown exact shows) failed

-- a call that puts the printed text escaped puts what a value shows that is not safe
pub puts_escaped : {S E : Type 0} (takes fails : S → List ℕ → S → Type 0) (result : Result (Unit {0}) E) (value : Form) (old new : S)
    → safe_in value ≡ false
    → Puts takes fails result (λ shown. (text : List ℕ) × Prints (layout value) text × (shown ≡ escaped text)) old new
    → Puts takes fails result (ShowsInPage value) old new
puts_escaped takes fails (Ok done) value old new unsafe (shown, (text, prints, is), took) =
    (shown, (text, prints, stands_escaped (safe_in value) text shown unsafe is), took)
puts_escaped takes fails (Err fault) value old new unsafe (shown, (text, prints, is), failed) =
    (shown, (text, prints, stands_escaped (safe_in value) text shown unsafe is), failed)

-- a value that is not safe shows no special byte but the `&` of an entity
stands_plainly : (is_safe : Bool) (text shown : List ℕ) → is_safe ≡ false → StandsFor is_safe shown text → SpecialBeginEntities shown
stands_plainly true text shown unsafe stands = absurd (cc)
stands_plainly false text shown unsafe stands = special_begin_entities shown text stands

pub shown_plainly : (value : Form) (shown : List ℕ) → safe_in value ≡ false → ShowsInPage value shown → SpecialBeginEntities shown
shown_plainly value shown unsafe (text, prints, stands) = stands_plainly (safe_in value) text shown unsafe stands

-- each value shows some text
stands_for_some : (is_safe : Bool) (text : List ℕ) → (shown : List ℕ) × StandsFor is_safe shown text
stands_for_some true text = (text, refl)
stands_for_some false text = (escaped text, Spells-escaped text)

pub value_shows : (value : Form) → (shown : List ℕ) × ShowsInPage value shown
value_shows value =
    let stands = stands_for_some (safe_in value) (printed (layout value)) in
    (stands.0, (printed (layout value), alone_prints (layout value), stands.1))
