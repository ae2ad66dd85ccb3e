-- What a sink takes and refuses through a `Stage`, which keeps a text back.
use Rattle.std.specs.Prelude.{◌≡◌, ℕ, ◌⊎◌, List, [], ◌++◌, refl}
use Rattle.std.proofs.Common.{◌∙◌, ap, sym, subst, append_assoc, append-nil}
use Rattle.std.specs.Borrow.{GName}
use Rattle.tera_values.specs.declared.stage.Stage.{Stage}

-- the sink, as it stands
abbrev pub staged_sink : {S : Type 0} → Stage S → S
staged_sink s = s.sink.now

-- the borrow of the sink
abbrev pub stage_loan : {S : Type 0} → Stage S → GName
stage_loan s = s.sink.ghost_name

-- the bytes that are kept back
abbrev pub kept_bytes : {S : Type 0} → Stage S → List ℕ
kept_bytes s = s.kept.bytes

-- new puts into the same sink as old
abbrev pub SameSink : {S : Type 0} → Stage S → Stage S → Type 0
SameSink old new = stage_loan new ≡ stage_loan old

-- the sink took what was kept back and the bytes, up to what is kept back now
pub record StageTakes {S : Type 0} (takes : S → List ℕ → S → Type 0) (old : Stage S)
    (bytes : List ℕ) (new : Stage S) : Type 0 where
  pub same : SameSink old new
  pub passed : List ℕ
  pub split : passed ++ kept_bytes new ≡ kept_bytes old ++ bytes
  pub took : takes (staged_sink old) passed (staged_sink new)

-- the sink was to take what was kept back and the bytes, and failed on them
pub record StageFails {S : Type 0} (fails : S → List ℕ → S → Type 0) (old : Stage S)
    (bytes : List ℕ) (new : Stage S) : Type 0 where
  pub same : SameSink old new
  pub failed : fails (staged_sink old) (kept_bytes old ++ bytes) (staged_sink new)

-- the sink took what was kept back, and nothing is kept back now
pub record StageSends {S : Type 0} (takes : S → List ℕ → S → Type 0) (old new : Stage S) : Type 0
  where
    pub same : SameSink old new
    pub took : takes (staged_sink old) (kept_bytes old) (staged_sink new)
    pub empty : kept_bytes new ≡ []

-- the sink failed on what was kept back
pub record StageBreaks {S : Type 0} (fails : S → List ℕ → S → Type 0) (old new : Stage S) : Type 0
  where
    pub same : SameSink old new
    pub failed : fails (staged_sink old) (kept_bytes old) (staged_sink new)

-- the sink took what was kept back, and was then flushed
pub record StageFlushes {S : Type 0} (takes : S → List ℕ → S → Type 0) (flushes : S → S → Type 0)
    (old new : Stage S) : Type 0 where
  pub same : SameSink old new
  pub mid : S
  pub took : takes (staged_sink old) (kept_bytes old) mid
  pub passed : flushes mid (staged_sink new)
  pub empty : kept_bytes new ≡ []

-- the sink failed on what was kept back, or took it and failed to be flushed
pub record StageFlushFails {S : Type 0} (takes fails : S → List ℕ → S → Type 0)
    (flush_fails : S → S → Type 0) (old new : Stage S) : Type 0 where
  pub same : SameSink old new
  pub failed : fails (staged_sink old) (kept_bytes old) (staged_sink new)
      ⊎ ((mid : S) × takes (staged_sink old) (kept_bytes old) mid
      × flush_fails mid (staged_sink new))

module _ {S : Type 0} (takes : S → List ℕ → S → Type 0) where
  pub stage_nothing : ((s : S) → takes s [] s) → (t : Stage S) → StageTakes takes t [] t
  stage_nothing nothing t = record {
    same = refl;
    passed = [];
    split = sym (append-nil (kept_bytes t));
    took = nothing (staged_sink t);
  }

  pub stage_joined : ((s : S) (a : List ℕ) (t : S) (b : List ℕ) (u : S) → takes s a t → takes t b u
      → takes s (a ++ b) u)
      → (s : Stage S) (a : List ℕ) (t : Stage S) (b : List ℕ) (u : Stage S)
      → StageTakes takes s a t → StageTakes takes t b u → StageTakes takes s (a ++ b) u
  stage_joined joined s a t b u p q = record {
    same = q.same ∙ p.same;
    passed = p.passed ++ q.passed;
    split = append_assoc p.passed q.passed (kept_bytes u)
        ∙ ap (λ l. p.passed ++ l) q.split
        ∙ sym (append_assoc p.passed (kept_bytes t) b)
        ∙ ap (λ l. l ++ b) p.split
        ∙ append_assoc (kept_bytes s) a b;
    took = joined _ p.passed _ q.passed _ p.took q.took;
  }

module _ {S : Type 0} (fails : S → List ℕ → S → Type 0) where
  pub stage_early : ((s : S) (a : List ℕ) (t : S) (b : List ℕ) → fails s a t → fails s (a ++ b) t)
      → (s : Stage S) (a : List ℕ) (t : Stage S) (b : List ℕ)
      → StageFails fails s a t → StageFails fails s (a ++ b) t
  stage_early early s a t b p = record {
    same = p.same;
    failed = subst (λ l. fails (staged_sink s) l (staged_sink t))
        (append_assoc (kept_bytes s) a b)
        (early _ (kept_bytes s ++ a) _ b p.failed);
  }

module _ {S : Type 0} (takes fails : S → List ℕ → S → Type 0) where
  pub stage_later : ((s : S) (a : List ℕ) (t : S) (b : List ℕ) (u : S) → takes s a t → fails t b u
      → fails s (a ++ b) u)
      → (s : Stage S) (a : List ℕ) (t : Stage S) (b : List ℕ) (u : Stage S)
      → StageTakes takes s a t → StageFails fails t b u → StageFails fails s (a ++ b) u
  stage_later later s a t b u p q = record {
    same = q.same ∙ p.same;
    failed = subst (λ l. fails (staged_sink s) l (staged_sink u))
        (sym (append_assoc p.passed (kept_bytes t) b)
        ∙ ap (λ l. l ++ b) p.split
        ∙ append_assoc (kept_bytes s) a b)
        (later _ p.passed _ (kept_bytes t ++ b) _ p.took q.failed);
  }
