-- Pieces that are put one after another, and texts of which a part may not be known.
use Rattle.std.proofs.Common.{◌≡◌, ℕ, List, [], ◌++◌, Option, None, Some, Result, Ok, Err, refl, sym, ap, subst, ◌∙◌, append_assoc, append-nil}
use Rattle.std.specs.Fmt.{◌++?◌}
use Rattle.tera_report.specs.Quoted.{IsText}
use Rattle.tera_report.specs.Sink.{OfSome, Puts, PutsThese}

pub failed_of : {S : Type 0} (fails : S → List ℕ → S → Type 0) (P : List ℕ → Type 0) (old new : S) (bytes : List ℕ)
    → P bytes → fails old bytes new → OfSome fails P old new
failed_of fails P old new bytes has failed = (bytes, has, failed)

-- a call that puts these bytes puts bytes with a property that they have
pub puts_these : {S E : Type 0} (takes fails : S → List ℕ → S → Type 0) (P : List ℕ → Type 0) (result : Result (Unit {0}) E)
    (bytes : List ℕ) (old new : S) → P bytes → PutsThese takes fails result bytes old new → Puts takes fails result P old new
puts_these takes fails P (Ok done) bytes old new has took = (bytes, has, took)
puts_these takes fails P (Err fault) bytes old new has failed = (bytes, has, failed)

-- some bytes are the text, whatever is known of it
pub some_text : (text : Option (List ℕ)) → (bytes : List ℕ) × IsText text bytes
some_text None = ([], tt)
some_text (Some known) = (known, refl)

-- two texts, one after the other
pub texts_joined : (s t : Option (List ℕ)) (a b : List ℕ) → IsText s a → IsText t b → IsText (s ++? t) (a ++ b)
texts_joined None t a b p q = tt
texts_joined (Some known) None a b p q = tt
texts_joined (Some known) (Some other) a b p q = λ i. p i ++ q i

-- some bytes were taken, and then others were put
pub puts_after : {S E : Type 0} (takes fails : S → List ℕ → S → Type 0)
    → ((s : S) (a : List ℕ) (t : S) (b : List ℕ) (u : S) → takes s a t → takes t b u → takes s (a ++ b) u)
    → ((s : S) (a : List ℕ) (t : S) (b : List ℕ) (u : S) → takes s a t → fails t b u → fails s (a ++ b) u)
    → (result : Result (Unit {0}) E) (a b whole : List ℕ) (old mid new : S) → a ++ b ≡ whole → takes old a mid
    → PutsThese takes fails result b mid new → PutsThese takes fails result whole old new
puts_after takes fails joined later (Ok done) a b whole old mid new is first took = subst (λ l. takes old l new) is (joined _ _ _ _ _ first took)
puts_after takes fails joined later (Err fault) a b whole old mid new is first failed = subst (λ l. fails old l new) is (later _ _ _ _ _ first failed)

-- ---- the pieces put so far, which with the rest are the whole

pub record SoFar {S : Type 0} (takes : S → List ℕ → S → Type 0) (old : S) (whole rest : List ℕ) (new : S) : Type 0 where
  pub done : List ℕ
  pub split : done ++ rest ≡ whole
  pub took : takes old done new

pub none_so_far : {S : Type 0} (takes : S → List ℕ → S → Type 0) (s : S) (whole : List ℕ) → takes s [] s → SoFar takes s whole whole s
none_so_far takes s whole nothing = record { done = []; split = refl; took = nothing }

-- what is taken in turn is taken together
abbrev pub Joins : {S : Type 0} → (S → List ℕ → S → Type 0) → Type 0
Joins {S} takes = (s : S) (a : List ℕ) (t : S) (b : List ℕ) (u : S) → takes s a t → takes t b u → takes s (a ++ b) u

pub more_so_far : {S : Type 0} (takes : S → List ℕ → S → Type 0) → Joins takes → {old mid new : S} {whole rest : List ℕ} (piece later : List ℕ)
    → SoFar takes old whole rest mid → piece ++ later ≡ rest → takes mid piece new → SoFar takes old whole later new
more_so_far takes joins piece later h is took = record {
  done = h.done ++ piece;
  split = append_assoc h.done piece later ∙ ap (λ l. h.done ++ l) is ∙ h.split;
  took = joins _ _ _ _ _ h.took took;
}

pub all_so_far : {S : Type 0} (takes : S → List ℕ → S → Type 0) {old new : S} {whole rest : List ℕ} → SoFar takes old whole rest new → rest ≡ []
    → takes old whole new
all_so_far takes {old} {new} h none = subst (λ l. takes old l new) (sym (append-nil h.done) ∙ ap (λ l. h.done ++ l) (sym none) ∙ h.split) h.took

-- a piece behind them was refused
module _ {S : Type 0} (takes fails : S → List ℕ → S → Type 0) (early : (s : S) (a : List ℕ) (t : S) (b : List ℕ) → fails s a t → fails s (a ++ b) t)
    (later : (s : S) (a : List ℕ) (t : S) (b : List ℕ) (u : S) → takes s a t → fails t b u → fails s (a ++ b) u) where
  pub broke_so_far : {old mid new : S} {whole rest : List ℕ} (piece behind : List ℕ) → SoFar takes old whole rest mid → piece ++ behind ≡ rest
      → fails mid piece new → fails old whole new
  broke_so_far {old} {mid} {new} piece behind h is broke =
      subst (λ l. fails old l new) (ap (λ l. h.done ++ l) is ∙ h.split) (later _ _ _ _ _ h.took (early _ _ _ behind broke))

-- ---- the same where the bytes need not be known: whatever has Q, behind what was put so far, has P

pub record Leads {S : Type 0} (takes : S → List ℕ → S → Type 0) (P Q : List ℕ → Type 0) (old new : S) : Type 0 where
  pub done : List ℕ
  pub leads : (rest : List ℕ) → Q rest → P (done ++ rest)
  pub took : takes old done new

pub leads_on : {S : Type 0} (takes : S → List ℕ → S → Type 0) → Joins takes → {P Q : List ℕ → Type 0} {old mid new : S} (piece : List ℕ)
    → Leads takes P Q old mid → takes mid piece new → Leads takes P (λ rest. Q (piece ++ rest)) old new
leads_on takes joins {P} piece h took = record {
  done = h.done ++ piece;
  leads = λ rest has. subst P (sym (append_assoc h.done piece rest)) (h.leads (piece ++ rest) has);
  took = joins _ _ _ _ _ h.took took;
}

pub leads_more : {S : Type 0} (takes : S → List ℕ → S → Type 0) → Joins takes → {P Q R : List ℕ → Type 0} {old mid new : S} (piece : List ℕ)
    → Leads takes P Q old mid → ((rest : List ℕ) → R rest → Q (piece ++ rest)) → takes mid piece new → Leads takes P R old new
leads_more takes joins piece h step took =
    let on = leads_on takes joins piece h took in record { done = on.done; leads = λ rest has. on.leads rest (step rest has); took = on.took }

pub leads_done : {S : Type 0} (takes : S → List ℕ → S → Type 0) {P Q : List ℕ → Type 0} {old new : S} → Leads takes P Q old new → Q []
    → OfSome takes P old new
leads_done takes {P} h has = (h.done, subst P (append-nil h.done) (h.leads [] has), h.took)

module _ {S : Type 0} (takes fails : S → List ℕ → S → Type 0) (later : (s : S) (a : List ℕ) (t : S) (b : List ℕ) (u : S) → takes s a t → fails t b u
    → fails s (a ++ b) u) where
  pub leads_broke : ((s : S) (a : List ℕ) (t : S) (b : List ℕ) → fails s a t → fails s (a ++ b) t) → {P Q : List ℕ → Type 0} {old mid new : S}
      (piece behind : List ℕ) → Leads takes P Q old mid → Q (piece ++ behind) → fails mid piece new → OfSome fails P old new
  leads_broke early piece behind h has broke = (h.done ++ (piece ++ behind), h.leads _ has, later _ _ _ _ _ h.took (early _ _ _ behind broke))

  pub leads_last : {E : Type 0} → Joins takes → {P Q : List ℕ → Type 0} {old mid : S} (new : S) (result : Result (Unit {0}) E) → Leads takes P Q old mid
      → Puts takes fails result Q mid new → Puts takes fails result P old new
  leads_last joins new (Ok done) h (bytes, has, took) = (h.done ++ bytes, h.leads bytes has, joins _ _ _ _ _ h.took took)
  leads_last joins new (Err fault) h (bytes, has, failed) = (h.done ++ bytes, h.leads bytes has, later _ _ _ _ _ h.took failed)
