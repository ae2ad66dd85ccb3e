-- Parts between brackets or braces, each behind a comma but the first: as they are spelled, as they are read, and the loop over them.
use Rattle.std.proofs.Common.{◌≡◌, ◌≢◌, ℕ, false, List, [], ◌∷◌, ◌++◌, refl, ap, sym, ◌∙◌, append_assoc, subst, ◌<◌, ◌≤◌, suc, max, length, length-append}
use Rattle.std.proofs.Common.{arith}
use Rattle.std.specs.List.{AllByRecursion}
use Rattle.tera_script.specs.Word.{is_blank, AreBlanks}
use Rattle.tera_script.specs.Readers.{Stops, front, past, is_word_byte, AllIn, MoreIn, BeginsWithLiteral, BeginsWithPair}
use Rattle.tera_script.proofs.Fronts.{past_is, front_cut, front_all, bracket_or_comma, front-past, length-past}
use Rattle.std.specs.Str.{IsUtf8}
use Rattle.tera_meaning.specs.Form.{Form}
use Rattle.tera_meaning.specs.KeyMeaning.{KeyForm}
use Rattle.tera_script.proofs.Utf8.{utf8_past_blanks, after_byte}

-- a part, and blanks, stand before the tail
pub record StandsBefore {E : Type 0} (Begins : List ℕ → E → List ℕ → Type 0) (xs : List ℕ) (e : E) (tail : List ℕ) : Type 0 where
  pub after : List ℕ
  pub blanks : AreBlanks after
  pub begins : Begins (past is_blank xs) e (after ++ tail)

-- blanks, and further parts that are spelled so, stand before the closing byte
pub record HasMore (Spells : List ℕ → Type 0) (close : ℕ) (xs rest : List ℕ) : Type 0 where
  pub after : List ℕ
  pub more : List ℕ
  pub blanks : AreBlanks after
  pub spells : Spells more
  pub spelled : xs ≡ after ++ (more ++ close ∷ rest)

pub no_more_back : (S : List ℕ → Type 0) (close : ℕ) (xs rest : List ℕ) → S [] → past is_blank xs ≡ close ∷ rest → HasMore S close xs rest
no_more_back S close xs rest s h =
    record { after = front is_blank xs; more = []; blanks = front_all is_blank xs; spells = s; spelled = front_cut is_blank xs (close ∷ rest) h }

pub more_back : (P S T : List ℕ → Type 0) (close : ℕ) (xs next behind rest : List ℕ) → past is_blank xs ≡ 44 ∷ next → (m : HasMore S close behind rest)
    → (first : List ℕ) × P first × (next ≡ first ++ (m.more ++ close ∷ rest))
    → ((first more : List ℕ) → P first → S more → T (44 ∷ (first ++ more))) → HasMore T close xs rest
more_back P S T close xs next behind rest h m p spells =
    record {
      after = front is_blank xs;
      more = 44 ∷ (p.0 ++ m.more);
      blanks = front_all is_blank xs;
      spells = spells p.0 m.more p.1 m.spells;
      spelled = front_cut is_blank xs _ (h ∙ ap (λ ys. 44 ∷ ys) (p.2 ∙ sym (append_assoc p.0 m.more (close ∷ rest))));
    }

module _ {E : Type 0} (Begins : List ℕ → E → List ℕ → Type 0) (close : ℕ) where
  -- a part behind a comma, and the first part
  pub more_in : (e : E) (es : List E) (after more first others rest : List ℕ) → AreBlanks after → more ≡ 44 ∷ (first ++ others)
      → (s : StandsBefore Begins (first ++ (others ++ close ∷ rest)) e (others ++ close ∷ rest))
      → MoreIn Begins close (s.after ++ (others ++ close ∷ rest)) es rest → MoreIn Begins close (after ++ (more ++ close ∷ rest)) (e ∷ es) rest
  more_in e es after more first others rest b is s m =
      let tail = others ++ close ∷ rest in
      (first ++ tail, s.after ++ tail, rw (is, append_assoc first others (close ∷ rest)) (past_is is_blank after (44 ∷ (first ++ tail)) b refl), s.begins, m)

  pub all_in : (e : E) (es : List E) (inner first others rest : List ℕ) → inner ≡ first ++ others
      → (s : StandsBefore Begins (first ++ (others ++ close ∷ rest)) e (others ++ close ∷ rest))
      → MoreIn Begins close (s.after ++ (others ++ close ∷ rest)) es rest → AllIn Begins close (inner ++ close ∷ rest) (e ∷ es) rest
  all_in e es inner first others rest is s m = (s.after ++ (others ++ close ∷ rest), rw (is, append_assoc first others (close ∷ rest)) s.begins, m)

-- what is needed of the parts to tell where they end
pub record AreClosedBy {E : Type 0} (Begins : List ℕ → E → List ℕ → Type 0) (Ends : E → List ℕ → Type 0) (close : ℕ) : Type 0 where
  pub stops : (e : E) (rest : List ℕ) → Stops is_word_byte rest → Ends e rest
  pub opens : (xs : List ℕ) (e : E) (rest ys : List ℕ) → Begins xs e rest → xs ≡ close ∷ ys → Ends e rest → ⊥
  pub word : is_word_byte close ≡ false
  pub comma : close ≢ 44

-- the part is the only one where it stands
abbrev pub IsOnlyPart : {E : Type 0} → (List ℕ → E → List ℕ → Type 0) → (E → List ℕ → Type 0) → E → Type 0
IsOnlyPart {E} Begins Ends e = (xs x : List ℕ) → Begins xs e x → Ends e x → (f : E) (y : List ℕ) → Begins xs f y → Ends f y → (e ≡ f) × (x ≡ y)

module _ {E : Type 0} (Begins : List ℕ → E → List ℕ → Type 0) (Ends : E → List ℕ → Type 0) (close : ℕ) (closed : AreClosedBy Begins Ends close) where
  -- what stands behind a part ends it
  pub stops_behind : (others : List E) (xs end : List ℕ) → MoreIn Begins close xs others end → Stops is_word_byte xs
  stops_behind [] xs end h = bracket_or_comma xs close end h closed.word
  stops_behind (e ∷ others) xs end h = bracket_or_comma xs 44 h.0 h.2 refl

  pub ends_before : (e : E) (others : List E) (xs end : List ℕ) → MoreIn Begins close xs others end → Ends e xs
  ends_before e others xs end h = closed.stops e xs (stops_behind others xs end h)

  pub only_more : (es : List E) → AllByRecursion (IsOnlyPart Begins Ends) es → (xs x : List ℕ) → MoreIn Begins close xs es x
      → (fs : List E) (y : List ℕ) → MoreIn Begins close xs fs y → (es ≡ fs) × (x ≡ y)
  only_more [] o xs x h [] y g = (refl, cc)
  only_more [] o xs x h (f ∷ fs) y g = absurd (closed.comma (cc))
  only_more (e ∷ es) o xs x h [] y g = absurd (closed.comma (cc))
  only_more (e ∷ es) o xs x h (f ∷ fs) y g =
      let next : h.0 ≡ g.0 = cc in
      let begins = subst (λ ys. Begins (past is_blank ys) f g.1) (sym next) g.3 in
      let first = o.0 (past is_blank h.0) h.1 h.3 (ends_before e es h.1 x h.4) f g.1 begins (ends_before f fs g.1 y g.4) in
      let rest = only_more es o.1 h.1 x h.4 fs y (subst (λ ys. MoreIn Begins close ys fs y) (sym first.1) g.4) in
      ((λ i. first.0 i ∷ rest.0 i), rest.1)

  pub only_all : (es : List E) → AllByRecursion (IsOnlyPart Begins Ends) es → (xs x : List ℕ) → AllIn Begins close xs es x
      → (fs : List E) (y : List ℕ) → AllIn Begins close xs fs y → (es ≡ fs) × (x ≡ y)
  only_all [] o xs x h [] y g = (refl, cc)
  only_all [] o xs x h (f ∷ fs) y g = absurd (closed.opens (past is_blank xs) f g.0 x g.1 h (ends_before f fs g.0 y g.2))
  only_all (e ∷ es) o xs x h [] y g = absurd (closed.opens (past is_blank xs) e h.0 y h.1 g (ends_before e es h.0 x h.2))
  only_all (e ∷ es) o xs x h (f ∷ fs) y g = only_more (e ∷ es) o (44 ∷ xs) x (xs, h.0, refl, h.1, h.2) (f ∷ fs) y (xs, g.0, refl, g.1, g.2)

-- how deep the deepest of some parts is
abbrev pub deepest : {E : Type 0} → (E → ℕ) → List E → ℕ
deepest deep [] = 0
deepest deep (e ∷ es) = max (deep e) (deepest deep es)

-- what else is needed of the parts: one alone stands at the front, and UTF-8 goes on behind it
pub record ArePartsOf {E : Type 0} (Begins : List ℕ → E → List ℕ → Type 0) (EndsPart : E → List ℕ → Type 0) (close : ℕ) : Type 0 where
  pub closed : AreClosedBy Begins EndsPart close
  pub only : (e : E) → IsOnlyPart Begins EndsPart e
  pub utf8 : (xs : List ℕ) (e : E) (rest : List ℕ) → Begins xs e rest → IsUtf8 xs → IsUtf8 rest

pub past_utf8 : (xs : List ℕ) → IsUtf8 xs → IsUtf8 (past is_blank xs)
past_utf8 xs u = utf8_past_blanks (front is_blank xs) (past is_blank xs) (front_all is_blank xs) (subst IsUtf8 (sym (front-past is_blank xs)) u)

past_length : (xs : List ℕ) → length (past is_blank xs) ≤ length xs
past_length xs = length-past is_blank xs

-- what stands behind a literal, a pair, and a mark behind these is shorter
pub literal_length : {xs rest : List ℕ} {v : Form} → BeginsWithLiteral xs v rest → length rest ≤ length xs
literal_length {xs} {rest} b = omega (arith, ap length b.spelled, length-append b.literal rest)

pub pair_length : {xs rest : List ℕ} {pair : KeyForm × Form} → BeginsWithPair xs pair rest → length rest ≤ length xs
pair_length (after, next, key, colon, value) = omega (
  arith,
  ap length key.spelled,
  length-append key.literal after,
  past_length after,
  ap length colon,
  past_length next,
  literal_length value,
)

pub shorter_rest : (rest behind : List ℕ) {next after : List ℕ} {b : ℕ} → length behind ≤ length rest → past is_blank behind ≡ b ∷ next → after ≡ past is_blank
    next
    → length after < length rest
shorter_rest rest behind {next} h m a = omega (arith, ap length a, past_length next, ap length m, past_length behind)

module _ {E : Type 0} (Begins : List ℕ → E → List ℕ → Type 0) (EndsPart : E → List ℕ → Type 0) (close : ℕ) (deep : E → ℕ) where
  deepest_last : (es : List E) (e : E) (n : ℕ) → deepest deep es ≤ n → deep e ≤ n → deepest deep (es ++ e ∷ []) ≤ n
  deepest_last [] e n h g = omega (arith, g)
  deepest_last (f ∷ es) e n h g = omega (arith, deepest_last es e n (omega (arith, h)) g, h)

  deepest_inside : (es : List E) (e : E) (others : List E) → deep e ≤ deepest deep (es ++ e ∷ others)
  deepest_inside [] e others = omega arith
  deepest_inside (f ∷ es) e others = omega (arith, deepest_inside es e others)

  -- what stands at the rest
  pub record HasPart (rest : List ℕ) (all es : List E) (end : List ℕ) : Type 0 where
    pub part : E
    pub others : List E
    pub behind : List ℕ
    pub begins : Begins rest part behind
    pub next : MoreIn Begins close behind others end
    pub is : all ≡ es ++ part ∷ others

  -- the parts so far, and one at the rest with those behind it, are all
  pub record IsSoFar (depth : ℕ) (inside : List ℕ) (es : List E) (rest : List ℕ) : Type 0 where
    pub shallow : deepest deep es ≤ depth
    pub utf8 : IsUtf8 inside → IsUtf8 rest
    pub forward : (e : E) (others : List E) (behind end : List ℕ) → Begins rest e behind → MoreIn Begins close behind others end → AllIn Begins close inside
        (es ++ e ∷ others) end
    pub backward : (all : List E) (end : List ℕ) → AllIn Begins close inside all end → HasPart rest all es end

  -- none of at most these levels stands there
  abbrev pub IsNowhere : ℕ → List ℕ → Type 0
  IsNowhere levels inside = IsUtf8 inside → (all : List E) (end : List ℕ) → AllIn Begins close inside all end → ¬ (suc (deepest deep all) ≤ levels)

  abbrev pub IsWhole : ℕ → List ℕ → List E → List ℕ → Type 0
  IsWhole levels inside all end = AllIn Begins close inside all end × (suc (deepest deep all) ≤ levels)

  -- at the first part
  pub none_so_far : (depth : ℕ) (inside rest : List ℕ) → rest ≡ past is_blank inside → ((end : List ℕ) → rest ≢ close ∷ end) → IsSoFar depth inside [] rest
  none_so_far depth inside rest r opened = rw r (record {
    shallow = omega arith;
    utf8 = past_utf8 inside;
    forward = λ e others behind end b m. (behind, b, m);
    backward = first;
  })
    where
      first : (all : List E) (end : List ℕ) → AllIn Begins close inside all end → HasPart (past is_blank inside) all [] end
      first [] end h = absurd (opened end (r ∙ h))
      first (e ∷ others) end h = record { part = e; others = others; behind = h.0; begins = h.1; next = h.2; is = refl }

module _ {E : Type 0} {Begins : List ℕ → E → List ℕ → Type 0} {EndsPart : E → List ℕ → Type 0} {close : ℕ} {deep : E → ℕ}
    (parts : ArePartsOf Begins EndsPart close) {depth : ℕ} {inside : List ℕ} {es : List E} {rest : List ℕ}
    (so_far : IsSoFar Begins EndsPart close deep depth inside es rest) {levels : ℕ} (l : levels ≡ suc depth)
  where
    behind_stops : (others : List E) (xs end : List ℕ) → MoreIn Begins close xs others end → Stops is_word_byte xs
    behind_stops = stops_behind Begins EndsPart close parts.closed

    -- where no part stands
    pub no_part : (IsUtf8 rest → (e : E) (behind : List ℕ) → Begins rest e behind → deep e ≤ depth → ¬ Stops is_word_byte behind) → IsNowhere Begins EndsPart
        close deep levels inside
    no_part n = λ utf8 all end h d.
        let i = so_far.backward all end h in
        let shallow : deep i.part ≤ depth = omega (
          arith,
          deepest_inside Begins EndsPart close deep es i.part i.others,
          subst
              (λ a. suc (deepest deep a) ≤ levels) i.is d,
          l,
        ) in
        n (so_far.utf8 utf8) i.part i.behind i.begins shallow (behind_stops i.others i.behind end i.next)

    module _ {e : E} {behind : List ℕ} (b : Begins rest e behind) (ends : EndsPart e behind) where
      -- the part that stands there is the one that was read
      follows : (all : List E) (end : List ℕ) → AllIn Begins close inside all end → (others : List E) × MoreIn Begins close behind others end
          × (all ≡ es ++ e ∷ others)
      follows all end h =
          let i = so_far.backward all end h in
          let same = parts.only e rest behind b ends i.part i.behind i.begins (parts.closed.stops i.part i.behind (behind_stops i.others i.behind end i.next))
          in
          (i.others, subst (λ ys. MoreIn Begins close ys i.others end) (sym same.1) i.next, i.is ∙ ap (λ f. es ++ f ∷ i.others) (sym same.0))

      -- behind it stands the closing byte or a comma
      pub no_mark : ((end : List ℕ) → past is_blank behind ≢ close ∷ end) → ((end : List ℕ) → past is_blank behind ≢ 44 ∷ end) → IsNowhere Begins EndsPart close
          deep levels inside
      no_mark closed comma = λ utf8 all end h d. let f = follows all end h in marked f.0 end f.1
        where
          marked : (others : List E) (end : List ℕ) → MoreIn Begins close behind others end → ⊥
          marked [] end m = closed end m
          marked (f ∷ others) end m = comma m.0 m.2

      pub last_part : {end : List ℕ} → deep e ≤ depth → past is_blank behind ≡ close ∷ end → IsWhole Begins EndsPart close deep levels inside (es ++ e ∷ []) end
      last_part {end} d h = (so_far.forward e [] behind end b h, omega (arith, deepest_last Begins EndsPart close deep es e depth so_far.shallow d, l))

      pub one_more : {next after : List ℕ} → deep e ≤ depth → past is_blank behind ≡ 44 ∷ next → after ≡ past is_blank next
          → IsSoFar Begins EndsPart close deep depth inside (es ++ e ∷ []) after
      one_more {next} {after} d m a = rw a (record {
        shallow = deepest_last Begins EndsPart close deep es e depth so_far.shallow d;
        utf8 = λ utf8.
            past_utf8 next (after_byte next 44 (omega arith) (subst IsUtf8 m (past_utf8 behind (parts.utf8 rest e behind b (so_far.utf8 utf8)))));
        forward = λ f others after end c n. subst (λ all. AllIn Begins close inside all end) (sym (append_assoc es (e ∷ []) (f ∷ others)))
            (so_far.forward e (f ∷ others) behind end b (next, after, m, c, n));
        backward = λ all end h. let f = follows all end h in at_next all f.0 end f.1 f.2;
      })
        where
          at_next : (all others : List E) (end : List ℕ) → MoreIn Begins close behind others end → all ≡ es ++ e ∷ others → HasPart Begins EndsPart close deep
              (past is_blank next) all
              (es ++ e ∷ []) end
          at_next all [] end n is = absurd (parts.closed.comma (cc))
          at_next all (f ∷ others) end n is =
              let same : n.0 ≡ next = cc in
              record {
                part = f;
                others = others;
                behind = n.1;
                begins = subst (λ ys. Begins (past is_blank ys) f n.1) same n.3;
                next = n.4;
                is = is ∙ sym (append_assoc es (e ∷ []) (f ∷ others));
              }
