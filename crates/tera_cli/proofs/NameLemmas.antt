-- Names as they are shown: each has a text, and texts in turn are a list.
use Rattle.std.proofs.Common.{◌≡◌, ◌∙◌, ℕ, Bool, true, false, List, [], ◌∷◌, ◌++◌, Bor, inl, inr, ap, append_assoc, codes, map, refl, subst, sym}
use Rattle.std.specs.FinMap.{entries, keys}
use Rattle.std.specs.List.{list_all}
use Rattle.tera_context.specs.Context.{lent_entries}
use Rattle.tera_meaning.specs.Form.{Form}
use Rattle.tera_meaning.specs.State.{State}
use Rattle.tera_report.specs.Quoted.{quoted}
use Rattle.tera_report.proofs.QuoteLaws.{quotes_by_rule}
use Rattle.tera_replies.specs.Script.{ended}
use Rattle.tera_script.specs.Word.{IsName, is_name_byte, is_name_start}
use Rattle.tera_cli.specs.Names.{IsListOf, WritesName}

-- each name is shown in some way
pub some_shown : (name : List ℕ) → (bytes : List ℕ) × WritesName name bytes
some_shown [] = (quoted [], inr ((λ h. h), quotes_by_rule []))
some_shown (b ∷ bytes) = decided (is_name_start b) (list_all is_name_byte bytes) refl refl
  where
    decided : (first others : Bool) → is_name_start b ≡ first → list_all is_name_byte bytes ≡ others
        → (shown : List ℕ) × WritesName (b ∷ bytes) shown
    decided true true f o = (b ∷ bytes, inl ((f, o), refl))
    decided false others f o = (quoted (b ∷ bytes), inr ((λ h. let is = h.0 in cc), quotes_by_rule (b ∷ bytes)))
    decided true false f o = (quoted (b ∷ bytes), inr ((λ h. let is = h.1 in cc), quotes_by_rule (b ∷ bytes)))

-- and so are several
pub some_list : (names : List (List ℕ)) → (bytes : List ℕ) × IsListOf names bytes
some_list [] = ([], refl)
some_list (name ∷ names) =
    let first = some_shown name in
    let others = some_list names in
    (ended first.0 ++ others.0, (first.0, others.0, first.1, others.1, refl))

-- the names of lent entries
abbrev pub names_in : List (Bor (List ℕ) × Bor Form) → List (List ℕ)
names_in all = map (λ entry. entry.0.now) all

-- one more name, and its line feed, before the others
pub list_more : (all : List (Bor (List ℕ) × Bor Form)) (entry : Bor (List ℕ) × Bor Form) (later : List (Bor (List ℕ) × Bor Form))
    (first rest : List ℕ) → all ≡ entry ∷ later → WritesName entry.0.now first → IsListOf (names_in later) rest
    → IsListOf (names_in all) (first ++ (codes "\n" ++ rest))
list_more all entry later first rest is writes others =
    subst (λ (es : List (Bor (List ℕ) × Bor Form)). IsListOf (names_in es) (first ++ (codes "\n" ++ rest))) (sym is)
    (first, rest, writes, others, sym (append_assoc first (codes "\n") rest))

lent_names : (all : List (Bor (List ℕ) × Bor Form)) → names_in all ≡ map (λ entry. entry.0) (lent_entries all)
lent_names [] = refl
lent_names (entry ∷ all) = ap (λ (names : List (List ℕ)). entry.0.now ∷ names) (lent_names all)

pub names_of : (all : List (Bor (List ℕ) × Bor Form)) (state : State) → lent_entries all ≡ entries state → names_in all ≡ keys state
names_of all state is = lent_names all ∙ ap (λ (es : List (List ℕ × Form)). map (λ entry. entry.0) es) is
