-- The front of a text, told by its places.
use Rattle.std.specs.Prelude.{◌≡◌, ◌+◌, ◌-◌, ◌≤◌, ◌<◌, ◌==◌, ◌&&◌, ◌||◌, ◌++◌, ℕ, zero, suc, Bool, true, false, cond, List, [], ◌∷◌, codes, take, drop}
use Rattle.std.specs.Prelude.{length, slice_index, refl}
use Rattle.std.proofs.Common.{⊎_elim, ap, sym, subst, ◌∙◌, arith}
use Rattle.std.proofs.lemmas.Bool.{cases_lt}
use Rattle.std.proofs.lemmas.Bool.Decides.{nat_tests}
use Rattle.std.proofs.lemmas.List.{length-append}
use Rattle.std.proofs.lemmas.Str.{IsCharBoundary-start, IsCharBoundary-after_ascii}
use Rattle.std.specs.Str.{IsUtf8, IsCharBoundary}
use Rattle.std.specs.List.{list_all}
use Rattle.tera_page.specs.Grammar.{DashFirst, DashLast, LeftOut, Mark, Marked, NoneOpens, begins_blank, closing}
use Rattle.tera_filters.specs.Parts.{NotBefore}
use Rattle.tera_page.specs.Words.{AreBlanks, is_blank}
use Rattle.tera_page.specs.Grammar.{leaves_out, opening, opens, opens_dashed, value_mark, tag_mark, comment_mark}
use Rattle.tera_page.specs.Tokens.{begins}

pub never : {P : Type 0} (t : Bool) → t ≡ false → t ≡ true → P
never t is other = absurd (cc)

brace_is_solid : (b : ℕ) → is_blank b ≡ true → (b == 123) ≡ false
brace_is_solid b is = grind (arith, nat_tests)

pub blank_is_ascii : (b : ℕ) → is_blank b ≡ true → b < 128
blank_is_ascii b is = grind (arith, nat_tests)

-- nothing begins at a blank
blank_opens : (b : ℕ) (bs : List ℕ) → is_blank b ≡ true → opens (b ∷ bs) ≡ false
blank_opens b [] is = refl
blank_opens b (c ∷ bs) is = ap (λ t. t && (c == 123 || (c == 37 || c == 35))) (brace_is_solid b is)

blank_opens_dashed : (b : ℕ) (bs : List ℕ) → is_blank b ≡ true → opens_dashed (b ∷ bs) ≡ false
blank_opens_dashed b [] is = refl
blank_opens_dashed b (c ∷ []) is = refl
blank_opens_dashed b (c ∷ d ∷ bs) is = ap (λ t. (t && (c == 123 || (c == 37 || c == 35))) && d == 45) (brace_is_solid b is)

-- what begins with a `-` behind blanks leaves them out
pub blanks_left_out : (bs : List ℕ) (n : ℕ) → ((i : ℕ) → i < n → is_blank (slice_index bs i) ≡ true) → opens_dashed (drop n bs) ≡ true
    → leaves_out bs ≡ true
blanks_left_out [] zero all is = absurd (cc)
blanks_left_out [] (suc n) all is = absurd (cc)
blanks_left_out (b ∷ bs) zero all is = ap (λ t. t || (is_blank b && leaves_out bs)) is
blanks_left_out (b ∷ bs) (suc n) all is =
    let later = blanks_left_out bs n (λ i below. all (suc i) (omega arith)) is in
    let blank = all 0 (omega arith) in
    ap (λ t. t || (is_blank b && leaves_out bs)) (blank_opens_dashed b bs blank) ∙ ap (λ t. t && leaves_out bs) blank ∙ later

open_byte : (b c : ℕ) (bs : List ℕ) → opens (b ∷ c ∷ bs) ≡ true → b ≡ 123
open_byte b c bs is = grind (arith, nat_tests)

-- the byte at which something begins
open_at : (bs : List ℕ) (n : ℕ) → opens (drop n bs) ≡ true → slice_index bs n ≡ 123
open_at [] zero is = absurd (cc)
open_at [] (suc n) is = absurd (cc)
open_at (b ∷ []) zero is = absurd (cc)
open_at (b ∷ c ∷ bs) zero is = open_byte b c bs is
open_at (b ∷ bs) (suc n) is = open_at bs n is

-- nothing begins so far, and from a place on there are blanks, and none before it
abbrev pub Solid : List ℕ → ℕ → ℕ → Type 0
Solid bs n at =
    NoneOpens at bs × (n ≤ at) × ((i : ℕ) → n ≤ i → i < at → is_blank (slice_index bs i) ≡ true)
    × (0 < n → is_blank (slice_index bs (n - 1)) ≡ false)

one_more : (P : ℕ → Type 0) (n : ℕ) → ((i : ℕ) → i < n → P i) → P n → (i : ℕ) → i < n + 1 → P i
one_more P n before here i below =
    ⊎_elim (λ less. before i less) (λ more. let same : n ≡ i = omega (arith, below, more) in subst P same here) (cases_lt i n)

pub kept : (bs : List ℕ) (n m at : ℕ) → Solid bs n at → opens (drop at bs) ≡ false → m ≡ cond (is_blank (slice_index bs at)) n (at + 1)
    → Solid bs m (at + 1)
kept bs n m at (none, within, all, solid) here is = go (is_blank (slice_index bs at)) refl is
  where
    none_more : NoneOpens (at + 1) bs
    none_more = one_more (λ i. opens (drop i bs) ≡ false) at none here

    go : (t : Bool) → is_blank (slice_index bs at) ≡ t → m ≡ cond t n (at + 1) → Solid bs m (at + 1)
    go true blank same =
        subst (λ k. Solid bs k (at + 1)) (sym same) (
          none_more,
          omega (arith, within),
          λ i from below. one_more (λ j. n ≤ j → is_blank (slice_index bs j) ≡ true) at (λ j less above. all j above less) (λ above. blank) i below from,
          solid,
        )
    go false unblank same =
        subst (λ k. Solid bs k (at + 1)) (sym same) (
          none_more,
          omega arith,
          λ i from below. absurd (omega (arith, from, below)),
          λ some. let past : at ≡ (at + 1) - 1 = omega arith in subst (λ k. is_blank (slice_index bs k) ≡ false) past unblank,
        )

-- blanks, and what begins behind them, are ASCII
pub ascii_there : (bs : List ℕ) (n at : ℕ) → n ≤ at → ((i : ℕ) → n ≤ i → i < at → is_blank (slice_index bs i) ≡ true)
    → opens (drop at bs) ≡ true → slice_index bs n < 128
ascii_there [] n zero within all is = absurd (cc)
ascii_there [] n (suc at) within all is = absurd (cc)
ascii_there (b ∷ bs) zero zero within all is = subst (λ x. x < 128) (sym (open_at (b ∷ bs) zero is)) (omega arith)
ascii_there (b ∷ bs) zero (suc at) within all is = blank_is_ascii b (all 0 (omega arith) (omega arith))
ascii_there (b ∷ bs) (suc n) zero within all is = absurd (omega (arith, within))
ascii_there (b ∷ bs) (suc n) (suc at) within all is =
    ascii_there bs n at (omega arith) (λ i from below. all (suc i) (omega arith) (omega arith)) is

or_true : (t u : Bool) → u ≡ true → t || u ≡ true
or_true true u is = refl
or_true false u is = is

-- a text begins with what is left out
pub begins_left_out : (bs : List ℕ) (n at : ℕ) → n ≡ 0 → ((i : ℕ) → n ≤ i → i < at → is_blank (slice_index bs i) ≡ true)
    → opens_dashed (drop at bs) ≡ true → begins bs ≡ true
begins_left_out bs n at none all is =
    or_true (opens bs) (leaves_out bs) (blanks_left_out bs at (λ i below. all i (omega (arith, none)) below) is)

-- what holds of each byte at the front holds of all of them
pub all_before : (f : ℕ → Bool) (bs : List ℕ) (k : ℕ) → k ≤ length bs → ((i : ℕ) → i < k → f (slice_index bs i) ≡ true)
    → list_all f (take k bs) ≡ true
all_before f [] zero within all = refl
all_before f [] (suc k) within all = refl
all_before f (b ∷ bs) zero within all = refl
all_before f (b ∷ bs) (suc k) within all =
    ap (λ t. t && list_all f (take k bs)) (all 0 (omega arith)) ∙ all_before f bs k (omega arith) (λ i below. all (suc i) (omega arith))

pub blanks_before : (bs : List ℕ) (k : ℕ) → k ≤ length bs → ((i : ℕ) → i < k → is_blank (slice_index bs i) ≡ true) → AreBlanks (take k bs)
blanks_before = all_before is_blank

-- a text may be cut behind ASCII
pub cut_behind_ascii : (bs : List ℕ) (k : ℕ) → IsUtf8 bs → k ≤ length bs → ((i : ℕ) → i < k → slice_index bs i < 128) → IsCharBoundary bs k
cut_behind_ascii bs zero u within all = IsCharBoundary-start bs u
cut_behind_ascii bs (suc k) u within all =
    let next : k + 1 ≡ suc k = omega arith in
    subst (IsCharBoundary bs) next (IsCharBoundary-after_ascii bs k u (omega arith) (all k (omega arith)))

pub cut_behind_blanks : (bs : List ℕ) (k : ℕ) → IsUtf8 bs → k ≤ length bs → ((i : ℕ) → i < k → is_blank (slice_index bs i) ≡ true) → IsCharBoundary bs k
cut_behind_blanks bs k u within all = cut_behind_ascii bs k u within (λ i below. blank_is_ascii _ (all i below))

-- ---- marks

or_none : (t : Bool) → t || false ≡ t
or_none true = refl
or_none false = refl

is_dash : (d : ℕ) → (d == 45) ≡ true → d ≡ 45
is_dash d is = grind (arith, nat_tests)

dash_first_is : (d : ℕ) (ds : List ℕ) → (d == 45) || false ≡ true → (more : List ℕ) × (d ∷ ds ≡ codes "-" ++ more)
dash_first_is d ds is = (ds, ap (λ b. b ∷ ds) (is_dash d (sym (or_none (d == 45)) ∙ is)))

-- a mark that leaves out blanks has a `-`
dash_there : (mark : Mark) (inner behind : List ℕ) → leaves_out (opening mark ++ (inner ++ (closing mark ++ behind))) ≡ true
    → (more : List ℕ) × (inner ≡ codes "-" ++ more)
dash_there value_mark [] behind is = absurd (cc)
dash_there value_mark (d ∷ ds) behind is = dash_first_is d ds is
dash_there tag_mark [] behind is = absurd (cc)
dash_there tag_mark (d ∷ ds) behind is = dash_first_is d ds is
dash_there comment_mark [] behind is = absurd (cc)
dash_there comment_mark (d ∷ ds) behind is = dash_first_is d ds is

pub both : (t u : Bool) → t && u ≡ true → (t ≡ true) × (u ≡ true)
both true u is = (refl, is)
both false u is = absurd (cc)

behind_blank : (b : ℕ) (bs : List ℕ) → is_blank b ≡ true → leaves_out (b ∷ bs) ≡ true → leaves_out bs ≡ true
behind_blank b bs blank is =
    sym (ap (λ t. t || (is_blank b && leaves_out bs)) (blank_opens_dashed b bs blank) ∙ ap (λ t. t && leaves_out bs) blank) ∙ is

behind_blanks : (bs more : List ℕ) → AreBlanks bs → leaves_out (bs ++ more) ≡ true → leaves_out more ≡ true
behind_blanks [] more blanks is = is
behind_blanks (b ∷ bs) more blanks is =
    let (blank, later) = both (is_blank b) (list_all is_blank bs) blanks in behind_blanks bs more later (behind_blank b (bs ++ more) blank is)

-- blanks stand before a mark only where it has a `-`
pub left_out : (mark : Mark) (text before inner behind ahead : List ℕ) (first : Bool)
    → text ≡ before ++ (opening mark ++ (inner ++ (closing mark ++ behind))) → (0 < length text → begins text ≡ true) → AreBlanks before
    → DashFirst first inner ahead → LeftOut first before
left_out mark text before inner behind ahead true is starts blanks dash = blanks
left_out mark text [] inner behind ahead false is starts blanks dash = refl
left_out mark text (b ∷ bs) inner behind ahead false is starts blanks dash =
    let rest = opening mark ++ (inner ++ (closing mark ++ behind)) in
    let (blank, later) = both (is_blank b) (list_all is_blank bs) blanks in
    let some : 0 < length text = subst (λ l. 0 < length l) (sym is) (omega arith) in
    let out : leaves_out (b ∷ (bs ++ rest)) ≡ true =
    ap (λ t. t || leaves_out (b ∷ (bs ++ rest))) (sym (blank_opens b (bs ++ rest) blank)) ∙ ap begins (sym is) ∙ starts some in
    let dashed = dash_there mark inner behind (behind_blanks bs rest later (behind_blank b (bs ++ rest) blank out)) in
    absurd (dash.1 dashed.0 dashed.1)

-- what stands behind two marks is shorter
pub behind_marks : (mark : Mark) (text before inner after rest : List ℕ)
    → text ≡ before ++ (opening mark ++ (inner ++ (closing mark ++ (after ++ rest)))) → length rest < length text
behind_marks mark text before inner after rest is =
    subst (λ l. length rest < length l) (sym is)
    (omega (
      arith,
      length-append before (opening mark ++ (inner ++ (closing mark ++ (after ++ rest)))),
      length-append (opening mark) (inner ++ (closing mark ++ (after ++ rest))),
      length-append inner (closing mark ++ (after ++ rest)),
      length-append (closing mark) (after ++ rest),
      length-append after rest,
      opening_len mark,
    ))
  where
    opening_len : (mark : Mark) → length (opening mark) ≡ 2
    opening_len value_mark = refl
    opening_len tag_mark = refl
    opening_len comment_mark = refl

pub solid_from : (bs : List ℕ) (n : ℕ) → (n < length bs → is_blank (slice_index bs n) ≡ false) → begins_blank (drop n bs) ≡ false
solid_from [] zero solid = refl
solid_from [] (suc n) solid = refl
solid_from (b ∷ bs) zero solid = solid (omega arith)
solid_from (b ∷ bs) (suc n) solid = solid_from bs n (λ below. solid (omega arith))

pub none_out : (last : Bool) → LeftOut last []
none_out true = refl
none_out false = refl

pub marked_there : (mark : Mark) (text before front inner behind ahead said after rest : List ℕ) (first last : Bool) → text ≡ before ++ front
    → front ≡ opening mark ++ (inner ++ (closing mark ++ behind)) → NotBefore (closing mark) (length inner) (inner ++ (closing mark ++ behind))
    → behind ≡ after ++ rest → (0 < length text → begins text ≡ true)
    → AreBlanks before → DashFirst first inner ahead → DashLast last ahead said → LeftOut last after → (last ≡ true → begins_blank rest ≡ false)
    → Marked mark said text rest
marked_there mark text before front inner behind ahead said after rest first last parts is none out starts blanks dash dash_too left all =
    let whole : text ≡ before ++ (opening mark ++ (inner ++ (closing mark ++ (after ++ rest)))) =
    parts ∙ ap (λ l. before ++ l) (is ∙ ap (λ l. opening mark ++ (inner ++ (closing mark ++ l))) out) in
    record {
      before = before;
      inner = inner;
      ahead = ahead;
      after = after;
      trims_before = first;
      trims_after = last;
      whole = whole;
      first = subst (λ l. NotBefore (closing mark) (length inner) (inner ++ (closing mark ++ l))) out none;
      left = dash;
      right = dash_too;
      out_before = left_out mark text before inner (after ++ rest) ahead first whole starts blanks dash;
      out_after = left;
      all_after = all;
    }
