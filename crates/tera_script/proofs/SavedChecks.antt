-- Entries that were looked at one after another, and what was found.
use Rattle.std.proofs.Common.{◌≡◌, ◌<◌, ◌≤◌, ℕ, Bool, false, true, List, [], ◌∷◌, ◌++◌, Err, nat_le, refl, sym, ap, subst, ◌∙◌}
use Rattle.std.proofs.Common.{append_assoc, append-nil, arith, inl, inr}
use Rattle.std.proofs.lemmas.Bool.Decides.{nat_tests}
use Rattle.std.specs.Borrow.{Bor}
use Rattle.std.specs.Cmp.Lexicographic.{slice_cmp}
use Rattle.std.specs.FinMap.{empty, entries}
use Rattle.std.specs.Ordering.{nat_cmp}
use Rattle.std.specs.declared.alloc.AllocError.{AllocError}
use Rattle.tera_meaning.proofs.ExtendLaws.{entries_of_rising}
use Rattle.tera_meaning.specs.Form.{Form}
use Rattle.tera_meaning.specs.State.{State}
use Rattle.tera_report.specs.Growing.{GrowingTakes, GrowingFails, grown_len}
use Rattle.tera_report.specs.declared.errors.Error.{Error}
use Rattle.tera_report.specs.declared.growing.Growing.{Growing}
use Rattle.tera_script.specs.Line.{levels}
use Rattle.tera_context.specs.Context.{lent_entries}
use Rattle.tera_script.specs.Saved.{script_of, ComesNext, HasLine, HaveLines, IsRefusalOf, RefusesScript, TellsFirst, WritesScript}
use Rattle.tera_script.specs.declared.script.ScriptError.{ScriptError}
use Rattle.tera_script.specs.declared.script.ScriptError.TheVariants.{BadName, TooDeep, OutOfMemory, Refused}

-- the entries so far have lines, and with those that are left they are all
abbrev pub HaveLinesUpTo : List (Bor (List ℕ) × Bor Form) → List (Bor (List ℕ) × Bor Form) → Type 0
HaveLinesUpTo all left = (before : List (List ℕ × Form)) × HaveLines before × (before ++ lent_entries left ≡ lent_entries all)

one_more : (before : List (List ℕ × Form)) (entry : List ℕ × Form) → HaveLines before → HasLine entry → HaveLines (before ++ entry ∷ [])
one_more [] entry have has = (has, tt)
one_more (e ∷ before) entry have has = (have.0, one_more before entry have.1 has)

pub goes_on : (all left others : List (Bor (List ℕ) × Bor Form)) (item : Bor (List ℕ) × Bor Form) → left ≡ item ∷ others → HaveLinesUpTo all left
    → HasLine (item.0.now, item.1.now) → HaveLinesUpTo all others
goes_on all left others item is (before, have, split) has =
    let entry : List ℕ × Form = (item.0.now, item.1.now) in (
      before ++ entry ∷ [],
      one_more before entry have has,
      append_assoc before (entry ∷ []) (lent_entries others) ∙ ap (λ es. before ++ lent_entries es) (sym is) ∙ split,
    )

pub comes_next : (all left others : List (Bor (List ℕ) × Bor Form)) (item : Bor (List ℕ) × Bor Form) → left ≡ item ∷ others → HaveLinesUpTo all left
    → ComesNext (lent_entries all) (item.0.now, item.1.now)
comes_next all left others item is (before, have, split) =
    (before, lent_entries others, have, sym split ∙ ap (λ es. before ++ lent_entries es) is)

pub all_have : (all left : List (Bor (List ℕ) × Bor Form)) → left ≡ [] → HaveLinesUpTo all left → HaveLines (lent_entries all)
all_have all left none (before, have, split) =
    subst HaveLines (sym (append-nil before) ∙ ap (λ es. before ++ lent_entries es) (sym none) ∙ split) have

pub deeper : (d : ℕ) → nat_le d levels ≡ false → levels < d
deeper d h = grind (arith, nat_tests)

pub shallow : (d : ℕ) → nat_le d levels ≡ true → d ≤ levels
shallow d h = grind (arith, nat_tests)

-- ---- refusals

pub told_writes : {S F : Type 0} (takes fails : S → List ℕ → S → Type 0) (context : State) (script : List ℕ) (out : S) (error : ScriptError F)
    → TellsFirst (entries context) error → WritesScript takes fails context script out (Err error) out
told_writes takes fails context script out (BadName name) told = (told, refl)
told_writes takes fails context script out (TooDeep name) told = (told, refl)
told_writes takes fails context script out OutOfMemory told = absurd told
told_writes takes fails context script out (Refused fault) told = absurd told

pub refuses : (context : State) (script : List ℕ) (old new : Growing) (error : ScriptError AllocError) (e : Error)
    → WritesScript GrowingTakes GrowingFails context script old (Err error) new → IsRefusalOf error e → RefusesScript (entries context) e
refuses context script old new (BadName name) e wrote is = inr (inl (name.now, wrote.0, is))
refuses context script old new (TooDeep name) e wrote is = inr (inr (name.now, wrote.0, is))
refuses context script old new OutOfMemory e wrote is = inl is
refuses context script old new (Refused fault) e wrote is = inl is

no_first : (entry : List ℕ × Form) → ComesNext [] entry → ⊥
no_first entry ([], after, have, split) = cc
no_first entry (e ∷ before, after, have, split) = cc

no_entries : entries {K = List ℕ} {X = Form} {R = slice_cmp nat_cmp} empty ≡ []
no_entries = entries_of_rising [] tt

-- of no names the script is always written
pub nothing_refused : (ascii : Bool) (context : State) (old new : Growing) (error : ScriptError AllocError) → grown_len old ≡ 0
    → WritesScript GrowingTakes GrowingFails context (script_of ascii (entries context)) old (Err error) new → context ≡ empty → ⊥
nothing_refused ascii context old new (BadName name) len wrote none =
    no_first (name.now, wrote.0.0) (subst (λ es. ComesNext es (name.now, wrote.0.0)) (ap entries none ∙ no_entries) wrote.0.1)
nothing_refused ascii context old new (TooDeep name) len wrote none =
    no_first (name.now, wrote.0.0) (subst (λ es. ComesNext es (name.now, wrote.0.0)) (ap entries none ∙ no_entries) wrote.0.1)
nothing_refused ascii context old new OutOfMemory len wrote none = wrote.0 none
nothing_refused ascii context old new (Refused fault) len wrote none =
    let failed = subst (λ es. GrowingFails old (script_of ascii es) new) (ap entries none ∙ no_entries) wrote.1 in
    absurd (omega (arith, failed.wanted, len))
