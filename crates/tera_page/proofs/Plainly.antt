-- What is not marked is shown with no special byte but the `&` of an entity.
use Rattle.std.specs.Prelude.{◌≡◌, ◌||◌, ◌==◌, ◌/◌, ◌%◌, ℕ, zero, suc, ℤ, pos, negsuc, Bool, true, false, List, [], ◌∷◌, Result, Ok, Err, refl}
use Rattle.std.proofs.Common.{sym, subst, ◌∙◌, arith}
use Rattle.std.proofs.lemmas.Bool.{cond_both, agree_below_at}
use Rattle.std.specs.List.{list_any}
use Rattle.std.specs.Fmt.{digits, digits_onto, digit_glyph, decimal, signed_decimal}
use Rattle.tera.proofs.PageLaws.{shown_plainly}
use Rattle.tera.specs.Arithmetic.{and_then}
use Rattle.tera.specs.Entities.{SpecialBeginEntities}
use Rattle.tera.specs.Escaping.{is_special}
use Rattle.tera.specs.Form.{Form}
use Rattle.tera.specs.InPage.{ShowsInPage}
use Rattle.tera.specs.InTurn.{ShownInTurn}
use Rattle.tera.specs.Printed.{printed_truth}
use Rattle.tera.specs.Refusal.{Refusal}
use Rattle.tera.specs.State.{State}
use Rattle.tera.specs.Tree.{undefined, none, truth, number, text, bytes, array, object}
use Rattle.tera_page.proofs.Fronts.{never}
use Rattle.tera_filters.specs.Filters.{filtered}
use Rattle.tera_filters.specs.Marks.{is_safe_text}
use Rattle.tera_filters.specs.declared.filter.Filter.{Filter}
use Rattle.tera_page.specs.Headline.{BringsNoTag, ShowsPlainly, is_marked}
use Rattle.tera_page.specs.Rendering.{IsPageOf, Piece, Pieces, ShowsPiece, verbatim, value}
use Rattle.tera_page.specs.Template.{Argument, Expression, in_page, as_printed, piped}
use Rattle.tera_page.specs.Values.{arguments, value_of}

neither : (a b : Bool) → a || b ≡ false → (a ≡ false) × (b ≡ false)
neither true b e = absurd (cc)
neither false b e = (refl, e)

-- one plain byte more
plainer : (byte : ℕ) (later : List ℕ) → is_special byte ≡ false → SpecialBeginEntities later → SpecialBeginEntities (byte ∷ later)
plainer byte later is plain = (never (is_special byte) is, plain)

plain_bytes : (bs : List ℕ) → list_any is_special bs ≡ false → SpecialBeginEntities bs
plain_bytes [] is = tt
plain_bytes (b ∷ bs) is =
    let (first, rest) = neither (is_special b) (list_any is_special bs) is in plainer b bs first (plain_bytes bs rest)

glyph_plain : (n : ℕ) → is_special (digit_glyph false (n % 10)) ≡ false
glyph_plain n = agree_below_at (λ d. is_special (digit_glyph false d)) (λ _. false) 10 (n % 10) refl (omega arith)

digits_plain : (k n : ℕ) (later : List ℕ) → SpecialBeginEntities later → SpecialBeginEntities (digits_onto k 10 false n later)
digits_plain zero n later plain = plain
digits_plain (suc k) n later plain =
    let d = digit_glyph false (n % 10) in
    let more = plainer d later (glyph_plain n) plain in
    cond_both (n / 10 == 0) (d ∷ later) (digits_onto k 10 false (n / 10) (d ∷ later)) SpecialBeginEntities (λ _. more)
    (λ _. digits_plain k (n / 10) (d ∷ later) more)

decimal_plain : (n : ℕ) → SpecialBeginEntities (decimal n)
unfolding digits
decimal_plain n = digits_plain 64 n [] tt

signed_plain : (z : ℤ) → SpecialBeginEntities (signed_decimal z)
signed_plain (pos n) = decimal_plain n
signed_plain (negsuc n) = plainer 45 (decimal (suc n)) refl (decimal_plain (suc n))

truth_plain : (b : Bool) → SpecialBeginEntities (printed_truth b)
truth_plain true = plain_bytes (printed_truth true) refl
truth_plain false = plain_bytes (printed_truth false) refl

in_page_plain : (v : Form) (shown : List ℕ) → is_safe_text v ≡ false → ShowsInPage v shown → SpecialBeginEntities shown
in_page_plain undefined shown unsafe (word, prints, stands) = subst SpecialBeginEntities (sym (stands ∙ prints)) tt
in_page_plain none shown unsafe (word, prints, stands) = subst SpecialBeginEntities (sym (stands ∙ prints)) tt
in_page_plain (truth b) shown unsafe (word, prints, stands) = subst SpecialBeginEntities (sym (stands ∙ prints)) (truth_plain b)
in_page_plain (number n) shown unsafe (word, prints, stands) = subst SpecialBeginEntities (sym (stands ∙ prints)) (signed_plain n.value)
in_page_plain (text t) shown unsafe shows = shown_plainly (text t) shown unsafe shows
in_page_plain (bytes bs) shown unsafe shows = shown_plainly (bytes bs) shown refl shows
in_page_plain (array xs) shown unsafe shows = shown_plainly (array xs) shown refl shows
in_page_plain (object ps) shown unsafe shows = shown_plainly (object ps) shown refl shows

pub unmarked_plain : (piece : Piece) (shown : List ℕ) → ShowsPiece piece shown → is_marked piece ≡ false → SpecialBeginEntities shown
unmarked_plain (verbatim t) shown shows unsafe = never true unsafe refl
unmarked_plain (value in_page v) shown shows unsafe = in_page_plain v shown unsafe shows
unmarked_plain (value as_printed v) shown shows unsafe = never true unsafe refl

all_plainly : (ps : List Piece) (page : List ℕ) → ShownInTurn ShowsPiece ps page → ShownInTurn ShowsPlainly ps page
all_plainly [] page is = is
all_plainly (piece ∷ ps) page (first, rest, shows, later, whole) =
    (first, rest, (shows, unmarked_plain piece first shows), all_plainly ps rest later, whole)

pub brings_no_tag : (pieces : Pieces) (page : List ℕ) → IsPageOf pieces page → BringsNoTag pieces page
brings_no_tag (Ok ps) page is = (ps, refl, all_plainly ps page is)
brings_no_tag (Err failure) page is = absurd is

made_from : (value : Result Form Refusal) (next : Form → Result Form Refusal) (made : Form) → and_then value next ≡ Ok made
    → (v : Form) × (next v ≡ Ok made)
made_from (Ok v) next made is = (v, is)
made_from (Err refusal) next made is = absurd (cc)

-- what a filter is given of what it stands behind
pub filter_given : (filter : Filter) (e : Expression) (given : List Argument) (state : State) (made : Form)
    → value_of (piped filter e given) state ≡ Ok made → (v : Form) × (filtered filter v (arguments state given) ≡ Ok made)
filter_given filter e given state made is = made_from (value_of e state) (λ v. filtered filter v (arguments state given)) made is

pub ruleset laws = (unmarked_plain, brings_no_tag)
