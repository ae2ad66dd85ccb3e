-- Items are printed one after another.
use Rattle.std.specs.Prelude.{◌≡◌, ℕ, ℤ, List, [], ◌∷◌, ◌++◌, codes, Some, None, Result, Ok, Err, refl, IsTrue}
use Rattle.std.proofs.Common.{sym, subst, arith}
use Rattle.tera_meaning.specs.Form.{Form}
use Rattle.tera_meaning.specs.Meaning.{Layout, layout}
use Rattle.tera_meaning.specs.Printed.{printed, printed_with, printed_key, is_exact}
use Rattle.tera_meaning.specs.Quoted.{Prints, PrintsInside, PrintsKey, PrintsItems as PrintsItemsBehind, PrintsMembers as PrintsPairsBehind}
use Rattle.tera_meaning.specs.Read.{text_in}
use Rattle.tera_meaning.specs.Tree.{Items, Members, items, members, no_items, item, no_members, member}
use Rattle.tera_meaning.specs.Tree.{undefined, none, truth, number, text, bytes, array, object}
use Rattle.tera_meaning.specs.KeyMeaning.{KeyMeaning, KeyForm, key_meaning, key_text, truth_key, number_key, text_key}
use Rattle.tera_meaning.proofs.QuotedLaws.{alone_exact, inside_prints, key_prints}
use Rattle.tera_values.specs.Key.{text_in_key}
use Rattle.tera_values.specs.Print.{PrintsItems, PrintsLaterItems, PrintsPairs}
use Rattle.tera_report.specs.Quoted.{Quotes, quoted}
use Rattle.tera_report.specs.Sink.{Puts, PutsThese}
use Rattle.tera_report.specs.Room.{RoomTakes, RoomFails, IsDecided}
use Rattle.tera_report.specs.declared.room.Room.{Room}

-- some bytes are printed of any items and of any pairs
pub some_items : (lead : List ℕ) (xs : Items ℤ (List ℕ) KeyMeaning) → (written : List ℕ) × PrintsItemsBehind lead xs written
some_items lead no_items = ([], refl)
some_items lead (item x xs) =
    let (others, prints) = some_items (codes ", ") xs in
    (lead ++ (printed_with quoted x ++ others), (printed_with quoted x, others, inside_prints x, prints, refl))

pub some_pairs : (lead : List ℕ) (ps : Members ℤ (List ℕ) KeyMeaning) → (written : List ℕ) × PrintsPairsBehind lead ps written
some_pairs lead no_members = ([], refl)
some_pairs lead (member k x ps) =
    let (others, prints) = some_pairs (codes ", ") ps in (
      lead ++ (printed_key k ++ codes ": " ++ printed_with quoted x ++ others),
      (printed_key k, printed_with quoted x, others, key_prints k, inside_prints x, prints, refl),
    )

pub array_printed : (xs : List Form) (inner : List ℕ) → PrintsItems xs inner
    → Prints (layout (array (items xs))) (codes "[" ++ inner ++ codes "]")
array_printed xs inner prints = (inner, prints, refl)

pub map_printed : (ps : List (KeyForm × Form)) (inner : List ℕ) → PrintsPairs ps inner
    → Prints (layout (object (members ps))) (codes "{" ++ inner ++ codes "}")
map_printed ps inner prints = (inner, prints, refl)

-- an item, and then what is printed of those behind it
pub first_leads : (all others : List Form) (x : Form) (written : List ℕ) → all ≡ x ∷ others → PrintsInside (layout x) written
    → (rest : List ℕ) → PrintsLaterItems others rest → PrintsItems all (written ++ rest)
first_leads all others x written is prints rest more =
    subst (λ l. PrintsItems l (written ++ rest)) (sym is) (written, rest, prints, more, refl)

-- the same behind others
pub next_leads : (left others : List Form) (x : Form) (written : List ℕ) → left ≡ x ∷ others → PrintsInside (layout x) written
    → (rest : List ℕ) → PrintsLaterItems others rest → PrintsLaterItems left (codes ", " ++ (written ++ rest))
next_leads left others x written is prints rest more =
    subst (λ l. PrintsLaterItems l (codes ", " ++ (written ++ rest))) (sym is) (written, rest, prints, more, refl)

-- inside an array a text is quoted, and all else prints as by itself
pub text_inside : (v : Form) (t written : List ℕ) → text_in v ≡ Some t → Quotes t written
    → PrintsInside (layout v) written
text_inside undefined t written is quotes = absurd (cc)
text_inside none t written is quotes = absurd (cc)
text_inside (truth b) t written is quotes = absurd (cc)
text_inside (number n) t written is quotes = absurd (cc)
text_inside (text s) t written is quotes =
    let same : s.spelled ≡ t = cc in subst (λ l. Quotes l written) (sym same) quotes
text_inside (bytes bs) t written is quotes = absurd (cc)
text_inside (array xs) t written is quotes = absurd (cc)
text_inside (object ps) t written is quotes = absurd (cc)

-- a key that is a text is quoted in a map
pub text_key_inside : (k : KeyForm) (t written : List ℕ) → text_in_key k ≡ Some t → Quotes t written
    → PrintsKey (key_meaning k) written
text_key_inside (truth_key b) t written is quotes = absurd (cc)
text_key_inside (number_key n) t written is quotes = absurd (cc)
text_key_inside (text_key s) t written is quotes =
    let same : key_text s ≡ t = cc in subst (λ l. Quotes l written) (sym same) quotes

pub other_inside : (v : Form) (written : List ℕ) → text_in v ≡ None → Prints (layout v) written
    → PrintsInside (layout v) written
other_inside undefined written is prints = prints
other_inside none written is prints = prints
other_inside (truth b) written is prints = prints
other_inside (number n) written is prints = prints
other_inside (text s) written is prints = absurd (cc)
other_inside (bytes bs) written is prints = prints
other_inside (array xs) written is prints = prints
other_inside (object ps) written is prints = prints

-- of an exact layout it is decided where its text fits
pub decided_where_exact : {E : Type 0} (x : Layout) (old new : Room) (result : Result (Unit {0}) E)
    → Puts RoomTakes RoomFails result (Prints x) old new → IsTrue (is_exact x) → IsDecided result old (printed x) new
decided_where_exact x old new (Ok done) (written, prints, took) exact =
    let takes : RoomTakes old (printed x) new = subst (λ l. RoomTakes old l new) (alone_exact x written exact prints) took in
    record { decided = (λ ok. takes.fits, λ fits. refl); takes = takes; fails = tt }
decided_where_exact x old new (Err fault) (written, prints, failed) exact =
    let fails : RoomFails old (printed x) new = subst (λ l. RoomFails old l new) (alone_exact x written exact prints) failed in
    record { decided = (λ ok. absurd (cc), λ fits. absurd (omega (arith, fits, fails.full))); takes = tt; fails = fails }

-- what is put behind bytes that were taken, be it a text or bytes with a property
module _ {S E : Type 0} (takes fails : S → List ℕ → S → Type 0)
    (joins : (s : S) (a : List ℕ) (t : S) (b : List ℕ) (u : S) → takes s a t → takes t b u → takes s (a ++ b) u)
    (later : (s : S) (a : List ℕ) (t : S) (b : List ℕ) (u : S) → takes s a t → fails t b u → fails s (a ++ b) u) where
  pub put_last : (P : List ℕ → Type 0) (result : Result (Unit {0}) E) (begun piece : List ℕ) (old mid new : S) → P (begun ++ piece)
      → takes old begun mid → PutsThese takes fails result piece mid new → Puts takes fails result P old new
  put_last P (Ok done) begun piece old mid new has first took = (begun ++ piece, has, joins _ _ _ _ _ first took)
  put_last P (Err fault) begun piece old mid new has first failed = (begun ++ piece, has, later _ _ _ _ _ first failed)

  pub put_more : (P Q : List ℕ → Type 0) (result : Result (Unit {0}) E) (begun : List ℕ) (old mid new : S)
      → ((rest : List ℕ) → Q rest → P (begun ++ rest)) → takes old begun mid → Puts takes fails result Q mid new
      → Puts takes fails result P old new
  put_more P Q (Ok done) begun old mid new has first (rest, holds, took) = (begun ++ rest, has rest holds, joins _ _ _ _ _ first took)
  put_more P Q (Err fault) begun old mid new has first (rest, holds, failed) = (begun ++ rest, has rest holds, later _ _ _ _ _ first failed)
