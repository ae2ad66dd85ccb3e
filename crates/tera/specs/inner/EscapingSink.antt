-- What a sink takes and refuses through one that escapes.
use Rattle.std.specs.Prelude.{◌≡◌, ℕ, List, [], ◌++◌, refl}
use Rattle.std.proofs.Common.{◌∙◌, sym, subst}
use Rattle.std.proofs.lemmas.List.Concat.{flat_map-append}
use Rattle.std.specs.Borrow.{GName}
use Rattle.tera_report.specs.Escaping.{escaped, spelling, token_of}
use Rattle.tera.specs.declared.escaping_sink.Escaping.{Escaping}

-- the sink, as it stands
abbrev pub inner_sink : {S : Type 0} → Escaping S → S
inner_sink s = s.sink.now

-- the borrow of the sink
abbrev pub sink_loan : {S : Type 0} → Escaping S → GName
sink_loan s = s.sink.ghost_name

-- the sink took the escaped bytes
pub record EscapingTakes {S : Type 0} (takes : S → List ℕ → S → Type 0) (old : Escaping S)
    (bytes : List ℕ) (new : Escaping S) : Type 0 where
  pub same : sink_loan new ≡ sink_loan old
  pub took : takes (inner_sink old) (escaped bytes) (inner_sink new)

-- the sink was to take the escaped bytes, and failed on them
pub record EscapingFails {S : Type 0} (fails : S → List ℕ → S → Type 0) (old : Escaping S)
    (bytes : List ℕ) (new : Escaping S) : Type 0 where
  pub same : sink_loan new ≡ sink_loan old
  pub failed : fails (inner_sink old) (escaped bytes) (inner_sink new)

-- the sink was flushed, or was to be and failed
pub record EscapingFlushes {S : Type 0} (flushes : S → S → Type 0) (old new : Escaping S)
    : Type 0 where
  pub same : sink_loan new ≡ sink_loan old
  pub passed : flushes (inner_sink old) (inner_sink new)

-- texts are escaped one after the other as they are together
both_escaped : (a b : List ℕ) → escaped (a ++ b) ≡ escaped a ++ escaped b
both_escaped a b = flat_map-append (λ byte. spelling (token_of byte)) a b

module _ {S : Type 0} (takes : S → List ℕ → S → Type 0) where
  pub escaping_nothing : ((s : S) → takes s [] s) → (t : Escaping S) → EscapingTakes takes t [] t
  escaping_nothing nothing t = record { same = refl; took = nothing (inner_sink t) }

  pub escaping_joined : ((s : S) (a : List ℕ) (t : S) (b : List ℕ) (u : S) → takes s a t
      → takes t b u → takes s (a ++ b) u)
      → (s : Escaping S) (a : List ℕ) (t : Escaping S) (b : List ℕ) (u : Escaping S)
      → EscapingTakes takes s a t → EscapingTakes takes t b u → EscapingTakes takes s (a ++ b) u
  escaping_joined joined s a t b u p q = record {
    same = q.same ∙ p.same;
    took = subst (λ l. takes (inner_sink s) l (inner_sink u)) (sym (both_escaped a b))
        (joined _ (escaped a) _ (escaped b) _ p.took q.took);
  }

module _ {S : Type 0} (fails : S → List ℕ → S → Type 0) where
  pub escaping_early : ((s : S) (a : List ℕ) (t : S) (b : List ℕ) → fails s a t
      → fails s (a ++ b) t)
      → (s : Escaping S) (a : List ℕ) (t : Escaping S) (b : List ℕ)
      → EscapingFails fails s a t → EscapingFails fails s (a ++ b) t
  escaping_early early s a t b p = record {
    same = p.same;
    failed = subst (λ l. fails (inner_sink s) l (inner_sink t)) (sym (both_escaped a b))
        (early _ (escaped a) _ (escaped b) p.failed);
  }

module _ {S : Type 0} (takes fails : S → List ℕ → S → Type 0) where
  pub escaping_later : ((s : S) (a : List ℕ) (t : S) (b : List ℕ) (u : S) → takes s a t
      → fails t b u → fails s (a ++ b) u)
      → (s : Escaping S) (a : List ℕ) (t : Escaping S) (b : List ℕ) (u : Escaping S)
      → EscapingTakes takes s a t → EscapingFails fails t b u → EscapingFails fails s (a ++ b) u
  escaping_later later s a t b u p q = record {
    same = q.same ∙ p.same;
    failed = subst (λ l. fails (inner_sink s) l (inner_sink u)) (sym (both_escaped a b))
        (later _ (escaped a) _ (escaped b) _ p.took q.failed);
  }
