-- A session by value: its one word, and what it owns.
use Rattle.std.proofs.Common.{◌≡◌, ℕ, List, [], ◌∷◌, ◌++◌, refl, subst, Option, None, Some}
use seplogic.Ra.Ura.{Ura}
use mir.Syntax.{impl, tnil, dnil}
use mir.Raw.{raw as bare}
use mir.Val.{Val, vstruct, vcons, vnil, of_list}
use base.Fml.{Fml}
use base.Fraction.{full_share}
use base.Logic.{never, fst∗, snd∗, guard_i, via}
use contract.Monad.{fact_use}
use types.Kit.{Item, Goal, Seq, Step, step, ‵, given, ◌$◌, drop, fsplit, fjoin, fpick, fpack, feq_i, feq_l, learn, use1}
use types.Logic.{Logic, sem}
use denote.RattleType.{Valss}
use denote.Memory.{lone}
use denote.RawPtr.{Ptr, RawPtr, Testable, block_ptr, in_a_block, lies_at, null_ptr, ptr_val}
use denote.Signature.{Slot, plain}
use denote.Steps.{nothing}
use denote.Struct.Owning.{shape}
use denote.Struct.Struct.{within}
use Rattle.std_alloc.specs.Box.Ownership.{box_owns}
use Rattle.std_alloc.proofs.BoxSteps.Form.{Bx}
use Rattle.std_heap.specs.contracts.Global as Heap
use Rattle.std_heap.specs.contracts.GlobalAllocator.TheImpl.{ghosts, dict}
use Rattle.std_heap.proofs.Global.TheLaws as heap
use Rattle.std_heap.proofs.GlobalToken.{dealloc_token-Testable}
use Rattle.tera_c.specs.Pointer.{pointer_owns, heap as one_heap}
use Rattle.tera_c.specs.declared.session_state.SessionState.{SessionState}
use Rattle.tera_c.specs.contracts.session_state.SessionState as state
use Rattle.tera_c.proofs.session_state.SessionState.TheLaws as laws
use Rattle.tera_c.specs.contracts.session.Session as session
use Rattle.tera_c.specs.contracts.parts.Parts as parts

-- the box of what a session holds
abbrev pub E : Bx
E = record {
  row = state.the_row;
  laws = laws.the_row_laws;
  al = record { row = Heap.the_row; laws = heap.the_row_laws; g = ghosts; d = dict; drops = impl [] tnil dnil };
}

abbrev pub FromParts : Slot 0
FromParts = plain (λ _. parts.the_row state.the_row Heap.the_row ghosts)

abbrev pub FromSession : Slot 0
FromSession = plain (λ _. session.the_row)

abbrev pub FromGlobal : Slot 0
FromGlobal = plain (λ _. Heap.the_row)

-- the block of a box at this pointer
abbrev pub boxed : Ptr → SessionState → Fml
boxed p x = box_owns (ghosts.dealloc_token one_heap) state.the_row p x

abbrev pub word : Val → Val
word v = vstruct (vcons v vnil)

module _ {M : Type 1} {𝓤 : Ura M} {𝓛 : Logic 𝓤} {K : Type 0} {Γ : List (Item 𝓤)} {G : Goal 𝓤 𝓛.H} where
  pub session_in : K → (p : Ptr) (x : Option SessionState)
      → Step K 𝓛 (‵ (session.the_row.own_val (record { pointer = p; inner = x }) (word (ptr_val p) ∷ [])) ∷ Γ) G (‵ (pointer_owns p x) ∷ Γ) G
  session_in t p x = step (λ s. let v : Val = word (ptr_val p) in
      nothing t $ feq_i t (List Val) (ptr_val p ∷ []) (ptr_val p ∷ []) refl $ fjoin t $ feq_i t (List Val) (v ∷ []) (v ∷ []) refl $ fjoin t $
      fpack t (Valss (RawPtr ∷ [])) (within (shape session.the_type) (p, tt) (v ∷ [])) (ptr_val p ∷ [], tt) $ fjoin t $ s)

  pub session_out : K → (d : session.the_row.Denot) (vs : List Val)
      → (vs ≡ word (ptr_val d.pointer) ∷ [] → Seq K 𝓛 (‵ (pointer_owns d.pointer d.inner) ∷ Γ) G)
      → Seq K 𝓛 (‵ (session.the_row.own_val d vs) ∷ Γ) G
  session_out t d vs k =
      fsplit t $ fpick t (λ vss. fsplit t $ feq_l t (λ ev. fsplit t $ feq_l t (λ ep. drop t $
      k (subst (λ (ps : List Val). vs ≡ vstruct (of_list (ps ++ [])) ∷ []) ep ev))))

  -- a closed session is null; an open one is a block of the heap, and so may be compared with null
  pub either_held : K → (p : Ptr) (inner : Option SessionState) → (inner ≡ None → p ≡ null_ptr → Seq K 𝓛 Γ G)
      → ((b o : ℕ) (x : SessionState) → inner ≡ Some x → p ≡ block_ptr b o → Testable (block_ptr b o) → Seq K 𝓛 (‵ (boxed (block_ptr b o) x) ∷ Γ) G)
      → Seq K 𝓛 (‵ (pointer_owns p inner) ∷ Γ) G
  either_held t p None shut open_ = feq_l t (λ e. shut refl e)
  either_held t p (Some x) shut open_ =
      let τ = bare (lone state.the_row.mir) in
      in_a_block t p (λ q. boxed q x) (fst∗ 𝓤 (never 𝓤) (sem 𝓛 (ghosts.dealloc_token one_heap τ null_ptr))) (λ b o e.
      let q = block_ptr b o in let B = sem 𝓛 (boxed q x) in
      use1 𝓛 (given (Testable q) (‵ (boxed q x))) (fact_use 𝓤 (Testable q)
      (via 𝓤 _ (snd∗ 𝓤 (sem 𝓛 (lies_at state.the_row full_share q x)) (sem 𝓛 (ghosts.dealloc_token one_heap τ q))) (dealloc_token-Testable 𝓛 one_heap τ q))
      (guard_i 𝓤 (Testable q) B)) $ learn t (λ may. open_ b o x refl e may))
