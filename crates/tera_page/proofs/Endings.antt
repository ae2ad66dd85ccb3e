-- What a text ends with: what stands behind its parts, and what is refused of them.
use Rattle.std.specs.Prelude.{◌≡◌, ◌++◌, ℕ, Bool, true, false, List, [], ◌∷◌, Result, Ok, Err, IfErr, refl, if◌then◌else◌}
use Rattle.std.proofs.Common.{ap, sym, ◌∙◌}
use Rattle.std.proofs.lemmas.List.{append_assoc}
use Rattle.tera.specs.Refusal.{Refusal}
use Rattle.tera.specs.State.{State}
use Rattle.tera_page.specs.Grammar as grammar
use Rattle.tera_page.specs.Grammar.{Mark, Marked, SpellsElse, SpellsEnd, SpellsPart, SpellsTag, SpellsUpTo, Tag, closing, opening}
use Rattle.tera_page.specs.Places.{EndsWith}
use Rattle.tera_page.specs.Rendering.{Failure, Names, Pieces, after, all_pieces, each, joined, loop_names, on, pieces, placed, repeated, shown_value, turns}
use Rattle.tera_page.specs.Template.{Part, Parts, Written, choice}
use Rattle.tera_page.specs.Values.{is_true, value_of}

pub ends_more : (text middle rest : List ℕ) → EndsWith text middle → EndsWith middle rest → EndsWith text rest
ends_more text middle rest (first, is) (second, more) =
    (first ++ second, is ∙ ap (λ l. first ++ l) more ∙ sym (append_assoc first second rest))

-- what stands behind two marks
behind_marks : (mark : Mark) (said text rest : List ℕ) → Marked mark said text rest → EndsWith text rest
behind_marks mark said text rest m =
    let last = m.after ++ rest in
    let close = closing mark ++ last in
    let inner = m.inner ++ close in
    let whole = opening mark ++ inner in
    ends_more text whole rest (m.before, m.whole) (ends_more whole inner rest (opening mark, refl)
    (ends_more inner close rest (m.inner, refl) (ends_more close last rest (closing mark, refl) (m.after, refl))))

pub behind_tag : (tag : Tag) (text rest : List ℕ) → SpellsTag tag text rest → EndsWith text rest
behind_tag tag text rest spells = behind_marks grammar.tag_mark spells.0 text rest spells.2

-- what stands behind parts
mutual
  pub behind_parts : (ps : Parts) (text rest : List ℕ) → SpellsUpTo ps text rest → EndsWith text rest
  behind_parts ps text rest (grammar.nothing whole left is) = ([], is)
  behind_parts ps text rest (grammar.one_more p qs whole next left one more) =
      ends_more whole next left (behind_part p whole next one) (behind_parts qs next left more)

  pub behind_part : (p : Part) (text rest : List ℕ) → SpellsPart p text rest → EndsWith text rest
  behind_part p text rest (grammar.text run whole left is) = (run, is.0)
  behind_part p text rest (grammar.comment said whole left is) = behind_marks grammar.comment_mark said whole left is
  behind_part p text rest (grammar.show w how said whole left writes is) = behind_marks grammar.value_mark is.0 whole left is.2
  behind_part p text rest (grammar.assign name w said whole left writes is) = behind_tag (grammar.set_tag name said) whole left is
  behind_part p text rest (grammar.choice test chosen otherwise said whole body tail left writes tag inside end) =
      ends_more whole body left (behind_tag (grammar.if_tag said) whole body tag)
      (ends_more body tail left (behind_parts chosen body tail inside) (behind_else otherwise tail left end))
  behind_part p text rest (grammar.loop bound over repeats otherwise said whole body tail left writes tag inside end) =
      ends_more whole body left (behind_tag (grammar.for_tag bound said) whole body tag)
      (ends_more body tail left (behind_parts repeats body tail inside) (behind_end grammar.endfor_tag otherwise tail left end))

  behind_end : (end : Tag) (ps : Parts) (text rest : List ℕ) → SpellsEnd end ps text rest → EndsWith text rest
  behind_end end ps text rest (grammar.ended last whole left tag) = behind_tag last whole left tag
  behind_end end ps text rest (grammar.otherwise last qs whole body tail left tag inside closes) =
      ends_more whole body left (behind_tag grammar.else_tag whole body tag)
      (ends_more body tail left (behind_parts qs body tail inside) (behind_tag last tail left closes))

  behind_else : (ps : Parts) (text rest : List ℕ) → SpellsElse ps text rest → EndsWith text rest
  behind_else ps text rest (grammar.last qs whole left end) = behind_end grammar.endif_tag qs whole left end
  behind_else ps text rest (grammar.elif test chosen others said whole body tail left writes tag inside end) =
      ends_more whole body left (behind_tag (grammar.elif_tag said) whole body tag)
      (ends_more body tail left (behind_parts chosen body tail inside) (behind_else others tail left end))

-- what is refused stands in the text, which ends with the template from there on
abbrev pub FailsIn : {X : Type 0} → List ℕ → Result X Failure → Type 0
FailsIn text r = IfErr r (λ failure. EndsWith text failure.from)

module _ {X : Type 0} where
  fails_more : (text middle : List ℕ) (r : Result X Failure) → EndsWith text middle → FailsIn middle r → FailsIn text r
  fails_more text middle (Ok x) ends is = tt
  fails_more text middle (Err failure) ends is = ends_more text middle failure.from ends is

  fails_placed : (text : List ℕ) (w : Written) (r : Result X Refusal) → w.from ≡ text → FailsIn text (placed w r)
  fails_placed text w (Ok x) from = tt
  fails_placed text w (Err refusal) from = ([], sym from)

  fails_first : {Y : Type 0} (text : List ℕ) (r : Result X Failure) (next : X → Result Y Failure) → FailsIn text r → ((x : X) → FailsIn text (next x))
      → FailsIn text (on r next)
  fails_first text (Ok x) next first rest = rest x
  fails_first text (Err failure) next first rest = first

module _ (text : List ℕ) where
  fails_joined : (first rest : Pieces) → FailsIn text first → FailsIn text rest → FailsIn text (joined first rest)
  fails_joined (Ok xs) (Ok ys) one more = tt
  fails_joined (Ok xs) (Err failure) one more = more
  fails_joined (Err failure) rest one more = one

  fails_either : (b : Bool) (x y : Pieces) → FailsIn text x → FailsIn text y → FailsIn text (if b then x else y)
  fails_either true x y one other = one
  fails_either false x y one other = other

  fails_each : (f : State → Pieces) → ((s : State) → FailsIn text (f s)) → (states : List State) → FailsIn text (each f states)
  fails_each f fails [] = tt
  fails_each f fails (s ∷ states) = fails_joined (f s) (each f states) (fails s) (fails_each f fails states)

  fails_repeated : (body otherwise : State → Pieces) → ((s : State) → FailsIn text (body s)) → ((s : State) → FailsIn text (otherwise s))
      → (state : State) (all : List Names) → FailsIn text (repeated body otherwise state all)
  fails_repeated body otherwise fails none state [] = none state
  fails_repeated body otherwise fails none state (own ∷ all) = fails_each body fails (turns state (own ∷ all))

-- what is refused of parts that a text spells
mutual
  pub parts_fail_in : (ps : Parts) (text rest : List ℕ) → SpellsUpTo ps text rest → (state : State) → FailsIn text (all_pieces ps state)
  parts_fail_in ps text rest (grammar.nothing whole left is) state = tt
  parts_fail_in ps text rest (grammar.one_more p qs whole next left one more) state =
      let later = all_pieces qs (after p state) in
      fails_joined whole (pieces p state) later (part_fails_in p whole next one state)
      (fails_more whole next later (behind_part p whole next one) (parts_fail_in qs next left more (after p state)))

  part_fails_in : (p : Part) (text rest : List ℕ) → SpellsPart p text rest → (state : State) → FailsIn text (pieces p state)
  part_fails_in p text rest (grammar.text run whole left is) state = tt
  part_fails_in p text rest (grammar.comment said whole left is) state = tt
  part_fails_in p text rest (grammar.show w how said whole left writes is) state =
      fails_first whole (shown_value w state) _ (fails_placed whole w _ writes.1) (λ v. tt)
  part_fails_in p text rest (grammar.assign name w said whole left writes is) state =
      fails_first whole (placed w (value_of w.expression state)) _ (fails_placed whole w _ writes.1) (λ v. tt)
  part_fails_in p text rest (grammar.choice test chosen otherwise said whole body tail left writes tag inside end) state =
      let first = behind_tag (grammar.if_tag said) whole body tag in
      let other = ends_more whole body tail first (behind_parts chosen body tail inside) in
      fails_first whole (placed test (value_of test.expression state)) _ (fails_placed whole test _ writes.1)
      (λ v. fails_either whole (is_true v) (all_pieces chosen state) (all_pieces otherwise state)
      (fails_more whole body (all_pieces chosen state) first (parts_fail_in chosen body tail inside state))
      (fails_more whole tail (all_pieces otherwise state) other (else_fails_in otherwise tail left end state)))
  part_fails_in p text rest (grammar.loop bound over repeats otherwise said whole body tail left writes tag inside end) state =
      let first = behind_tag (grammar.for_tag bound said) whole body tag in
      let other = ends_more whole body tail first (behind_parts repeats body tail inside) in
      fails_first whole (loop_names bound over state) _ (fails_placed whole over _ writes.1)
      (λ all. fails_repeated whole (all_pieces repeats) (all_pieces otherwise)
      (λ s. fails_more whole body (all_pieces repeats s) first (parts_fail_in repeats body tail inside s))
      (λ s. fails_more whole tail (all_pieces otherwise s) other (end_fails_in grammar.endfor_tag otherwise tail left end s)) state all)

  end_fails_in : (end : Tag) (ps : Parts) (text rest : List ℕ) → SpellsEnd end ps text rest → (state : State) → FailsIn text (all_pieces ps state)
  end_fails_in end ps text rest (grammar.ended last whole left tag) state = tt
  end_fails_in end ps text rest (grammar.otherwise last qs whole body tail left tag inside closes) state =
      fails_more whole body (all_pieces qs state) (behind_tag grammar.else_tag whole body tag) (parts_fail_in qs body tail inside state)

  else_fails_in : (ps : Parts) (text rest : List ℕ) → SpellsElse ps text rest → (state : State) → FailsIn text (all_pieces ps state)
  else_fails_in ps text rest (grammar.last qs whole left end) state = end_fails_in grammar.endif_tag qs whole left end state
  else_fails_in ps text rest (grammar.elif test chosen others said whole body tail left writes tag inside end) state =
      let first = behind_tag (grammar.elif_tag said) whole body tag in
      let other = ends_more whole body tail first (behind_parts chosen body tail inside) in
      fails_joined whole (pieces (choice test chosen others) state) (Ok [])
      (fails_first whole (placed test (value_of test.expression state)) _ (fails_placed whole test _ writes.1)
      (λ v. fails_either whole (is_true v) (all_pieces chosen state) (all_pieces others state)
      (fails_more whole body (all_pieces chosen state) first (parts_fail_in chosen body tail inside state))
      (fails_more whole tail (all_pieces others state) other (else_fails_in others tail left end state)))) tt
