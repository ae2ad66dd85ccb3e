-- What is quoted has no line feed, nor have numbers and names; so a reply has none of its own.
use Rattle.std.proofs.Common.{if◌then◌else◌, ◌≡◌, ◌≢◌, ◌==◌, ◌&&◌, ℕ, zero, suc, ◌/◌, ◌%◌, Bool, true, false, not, cond, List, [], ◌∷◌, ◌++◌, length}
use Rattle.std.proofs.Common.{Some, None, Ok, Err, codes, decimal, refl, ap, ◌∙◌, arith, ne_eqb, eq-eqb}
use Rattle.std.specs.Prelude.{ℤ, pos, negsuc}
use Rattle.std.specs.declared.cmp.Ordering.TheVariants.{Less, Equal, Greater}
use Rattle.std.proofs.lemmas.Bool.{and_parts, cond_both, agree_below_at, eqb-true}
use Rattle.std.proofs.lemmas.Bool.Decides.{nat_tests}
use Rattle.std.proofs.lemmas.List.Elements.{All-cons, All-nil, All-head, All-tail}
use Rattle.std.proofs.lemmas.List.Folds.{list_all-append}
use Rattle.std.specs.Fmt.{digits, digits_onto, digit_glyph, signed_decimal, comma_space}
use Rattle.std.specs.List.{list_all}
use Rattle.std.specs.Str.Lossy.{utf8_lossy}
use Rattle.tera_report.specs.Quoted.{Quotes, QuotesItems, is_control, closes}
use Rattle.tera_report.proofs.QuoteLaws.{quotes_close}
use Rattle.tera_meaning.specs.Answer
use Rattle.tera_meaning.specs.Form.{Form}
use Rattle.tera_meaning.specs.Integer.{u64, i64, u128, i128}
use Rattle.tera_meaning.specs.KeyMeaning.{KeyMeaning, truth_key, number_key, text_key}
use Rattle.tera_meaning.specs.Kind.{Kind, kind_name, undefined_kind, none_kind, truth_kind, number_kind, text_kind, array_kind, object_kind, bytes_kind}
use Rattle.tera_meaning.specs.Meaning.{Layout, layout}
use Rattle.tera_meaning.specs.Outcome.{Outcome}
use Rattle.tera_meaning.specs.Printed.{printed_truth}
use Rattle.tera_meaning.specs.Quoted.{PrintsKey, PrintsItems, PrintsMembers, PrintsInside}
use Rattle.tera_meaning.specs.Tree.{Items, Members, undefined, none, truth, number, text, bytes, array, object, no_items, item, no_members, member}
use Rattle.tera_replies.specs.Reply.{IsReply, IsFormOf, IsListed, IsUnbroken, BytesAreOneLine, ItemsAreOneLine, MembersAreOneLine}
use Rattle.tera_replies.specs.Script.{HasNoLineFeed, line_feed}

-- no byte is a line feed
abbrev is_flat : List ℕ → Bool
is_flat xs = list_all (λ byte. not (byte == 10)) xs

none_from : (xs : List ℕ) → is_flat xs ≡ true → HasNoLineFeed xs
none_from [] e = All-nil (λ byte. byte ≢ line_feed)
none_from (b ∷ bs) e =
    let p = and_parts (not (b == 10)) (is_flat bs) e in
    All-cons (λ byte. byte ≢ line_feed) b bs (λ same. let is = eq-eqb b 10 same in absurd (cc)) (none_from bs p.1)

from_none : (xs : List ℕ) → HasNoLineFeed xs → is_flat xs ≡ true
from_none [] h = refl
from_none (b ∷ bs) h =
    rw (ne_eqb b 10 (All-head (λ byte. byte ≢ line_feed) b bs h)) (from_none bs (All-tail (λ byte. byte ≢ line_feed) b bs h))

joined : (a b : List ℕ) → is_flat a ≡ true → is_flat b ≡ true → is_flat (a ++ b) ≡ true
joined a b p q = list_all-append (λ byte. not (byte == 10)) a b ∙ (λ i. p i && q i)

-- ---- what is quoted

no_feed : (b : ℕ) → not (is_control b) ≡ true → not (b == 10) ≡ true
no_feed b h = grind (arith, nat_tests)

at_end : (is_quote : Bool) (bs : List ℕ) (other : Bool) → cond is_quote (length bs == 0) other ≡ true
    → (other ≡ true → is_flat bs ≡ true) → is_flat bs ≡ true
at_end true [] other e f = refl
at_end true (b ∷ bs) other e f = let none = eqb-true (length (b ∷ bs)) 0 e in absurd (omega (arith, none))
at_end false bs other e f = f e

closed_flat : (escaped : Bool) (bs : List ℕ) → closes escaped bs ≡ true → is_flat bs ≡ true
closed_flat escaped [] e = refl
closed_flat true (b ∷ bs) e =
    let p = and_parts (not (is_control b)) (closes false bs) e in
    λ i. no_feed b p.0 i && closed_flat false bs p.1 i
closed_flat false (b ∷ bs) e =
    let p = and_parts (not (is_control b)) (if b == 34 then length bs == 0 else closes (b == 92) bs) e in
    let rest = at_end (b == 34) bs (closes (b == 92) bs) p.1 (closed_flat (b == 92) bs) in
    λ i. no_feed b p.0 i && rest i

quoted_flat : (xs bs : List ℕ) → Quotes xs bs → is_flat bs ≡ true
quoted_flat xs bs quotes =
    let (rest, is, closed) = quotes_close xs bs quotes in
    ap is_flat is ∙ closed_flat false rest closed

texts_flat : (lead : List ℕ) (texts : List (List ℕ)) (bs : List ℕ) → is_flat lead ≡ true → QuotesItems lead texts bs
    → is_flat bs ≡ true
texts_flat lead [] bs flat is = ap is_flat is
texts_flat lead (xs ∷ texts) bs flat (first, others, one, rest, is) =
    ap is_flat is
    ∙ joined lead (first ++ others) flat
    (joined first others (quoted_flat xs first one) (texts_flat comma_space texts others refl rest))

listed_flat : (word : List ℕ) (texts : List (List ℕ)) (line : List ℕ) → is_flat word ≡ true → IsListed word texts line
    → is_flat line ≡ true
listed_flat word texts line flat (listed, (items, each, within), is) =
    ap is_flat is
    ∙ joined word listed flat (ap is_flat within ∙ joined items (93 ∷ []) (texts_flat [] texts items refl each) refl)

-- ---- numbers and names

glyph_flat : (n : ℕ) → not (digit_glyph false (n % 10) == 10) ≡ true
glyph_flat n = agree_below_at (λ d. not (digit_glyph false d == 10)) (λ _. true) 10 (n % 10) refl (omega arith)

onto_flat : (k n : ℕ) (later : List ℕ) → is_flat later ≡ true → is_flat (digits_onto k 10 false n later) ≡ true
onto_flat zero n later flat = flat
onto_flat (suc k) n later flat =
    let d = digit_glyph false (n % 10) in
    let longer : is_flat (d ∷ later) ≡ true = λ i. glyph_flat n i && flat i in
    cond_both (n / 10 == 0) (d ∷ later) (digits_onto k 10 false (n / 10) (d ∷ later)) (λ l. is_flat l ≡ true) (λ _. longer)
    (λ _. onto_flat k (n / 10) (d ∷ later) longer)

decimal_flat : (n : ℕ) → is_flat (decimal n) ≡ true
unfolding digits
decimal_flat n = onto_flat 64 n [] refl

signed_flat : (z : ℤ) → is_flat (signed_decimal z) ≡ true
signed_flat (pos n) = decimal_flat n
signed_flat (negsuc n) = decimal_flat (suc n)

truth_flat : (b : Bool) → is_flat (printed_truth b) ≡ true
truth_flat true = refl
truth_flat false = refl

-- ---- what is printed inside an array or a map

key_flat : (k : KeyMeaning) (written : List ℕ) → PrintsKey k written → is_flat written ≡ true
key_flat (truth_key b) written prints = ap is_flat prints ∙ truth_flat b
key_flat (number_key z) written prints = ap is_flat prints ∙ signed_flat z
key_flat (text_key t) written prints = quoted_flat t written prints

mutual
  inside_flat : (x : Layout) (written : List ℕ) → BytesAreOneLine x → PrintsInside x written → is_flat written ≡ true
  inside_flat undefined written one prints = ap is_flat prints
  inside_flat none written one prints = ap is_flat prints
  inside_flat (truth b) written one prints = ap is_flat prints ∙ truth_flat b
  inside_flat (number z) written one prints = ap is_flat prints ∙ signed_flat z
  inside_flat (text t) written one prints = quoted_flat t written prints
  inside_flat (bytes bs) written one prints = ap is_flat prints ∙ from_none (utf8_lossy bs) one
  inside_flat (array xs) written one (inner, prints, is) =
      ap is_flat is ∙ joined inner (codes "]") (items_flat [] xs inner refl one prints) refl
  inside_flat (object ps) written one (inner, prints, is) =
      ap is_flat is ∙ joined inner (codes "}") (members_flat [] ps inner refl one prints) refl

  items_flat : (lead : List ℕ) (xs : Items ℤ (List ℕ) KeyMeaning) (written : List ℕ) → is_flat lead ≡ true → ItemsAreOneLine xs
      → PrintsItems lead xs written → is_flat written ≡ true
  items_flat lead no_items written flat one prints = ap is_flat prints
  items_flat lead (item x xs) written flat one (first, others, prints, rest, is) =
      ap is_flat is
      ∙ joined lead (first ++ others) flat
      (joined first others (inside_flat x first one.0 prints) (items_flat (codes ", ") xs others refl one.1 rest))

  members_flat : (lead : List ℕ) (ps : Members ℤ (List ℕ) KeyMeaning) (written : List ℕ) → is_flat lead ≡ true → MembersAreOneLine ps
      → PrintsMembers lead ps written → is_flat written ≡ true
  members_flat lead no_members written flat one prints = ap is_flat prints
  members_flat lead (member k x ps) written flat one (key, value, others, named, prints, rest, is) =
      ap is_flat is
      ∙ joined lead (key ++ codes ": " ++ value ++ others) flat
      (joined (key ++ codes ": " ++ value) others
      (joined (key ++ codes ": ") value (joined key (codes ": ") (key_flat k key named) refl) (inside_flat x value one.0 prints))
      (members_flat (codes ", ") ps others refl one.1 rest))

-- ---- replies

form_flat : (v : Form) (form : List ℕ) → BytesAreOneLine (layout v) → IsFormOf v form → is_flat form ≡ true
form_flat undefined form one is = ap is_flat is
form_flat none form one is = ap is_flat is
form_flat v form one is = inside_flat (layout v) form one is

kind_flat : (k : Kind) → is_flat (kind_name k) ≡ true
kind_flat undefined_kind = refl
kind_flat none_kind = refl
kind_flat truth_kind = refl
kind_flat (number_kind u64) = refl
kind_flat (number_kind i64) = refl
kind_flat (number_kind u128) = refl
kind_flat (number_kind i128) = refl
kind_flat text_kind = refl
kind_flat array_kind = refl
kind_flat object_kind = refl
kind_flat bytes_kind = refl

reply_flat : (outcome : Outcome) (line : List ℕ) → IsUnbroken outcome → IsReply outcome line → is_flat line ≡ true
reply_flat (Ok Answer.done) line one is = ap is_flat is
reply_flat (Ok (Answer.truth true)) line one is = ap is_flat is
reply_flat (Ok (Answer.truth false)) line one is = ap is_flat is
reply_flat (Ok (Answer.order None)) line one is = ap is_flat is
reply_flat (Ok (Answer.order (Some Less))) line one is = ap is_flat is
reply_flat (Ok (Answer.order (Some Equal))) line one is = ap is_flat is
reply_flat (Ok (Answer.order (Some Greater))) line one is = ap is_flat is
reply_flat (Ok (Answer.found None)) line one is = ap is_flat is
reply_flat (Ok (Answer.found (Some v))) line one (form, prints, is) = ap is_flat is ∙ form_flat v form one prints
reply_flat (Ok (Answer.size None)) line one is = ap is_flat is
reply_flat (Ok (Answer.size (Some n))) line one is = ap is_flat is ∙ decimal_flat n
reply_flat (Ok (Answer.kind kind)) line one is = ap is_flat is ∙ kind_flat kind
reply_flat (Ok (Answer.text printed)) line one is = ap is_flat is ∙ from_none printed one
reply_flat (Ok (Answer.texts texts)) line one is = listed_flat (codes "fields ") texts line refl is
reply_flat (Ok (Answer.walked texts)) line one is = listed_flat (codes "walk ") texts line refl is
reply_flat (Err refusal) line one (words, told, is) = ap is_flat is ∙ from_none words (one words told)

pub one_line : (outcome : Outcome) (line : List ℕ) → IsUnbroken outcome → IsReply outcome line → HasNoLineFeed line
one_line outcome line one is = none_from line (reply_flat outcome line one is)
