-- What a sink takes and refuses through an `ErrorSink`.
use Rattle.std.specs.Prelude.{◌≡◌, ℕ, List, [], ◌++◌, refl}
use Rattle.std.proofs.Common.{◌∙◌}
use Rattle.std.specs.Borrow.{GName}
use Rattle.tera_replies.specs.declared.error_sink.ErrorSink.{ErrorSink}

-- the sink, as it stands
abbrev pub lent_sink : {W : Type 0} → ErrorSink W → W
lent_sink t = t.sink.now

-- the borrow of the sink
abbrev pub sink_loan : {W : Type 0} → ErrorSink W → GName
sink_loan t = t.sink.ghost_name

-- new puts into the same sink as old
abbrev pub SameSink : {W : Type 0} → ErrorSink W → ErrorSink W → Type 0
SameSink old new = sink_loan new ≡ sink_loan old

-- what the sink takes, fails on, and what a flush of it does
pub record ErrorSinkTakes {W : Type 0} (takes : W → List ℕ → W → Type 0) (old : ErrorSink W)
    (bytes : List ℕ)
    (new : ErrorSink W) : Type 0 where
  pub same : SameSink old new
  pub took : takes (lent_sink old) bytes (lent_sink new)

pub record ErrorSinkFails {W : Type 0} (fails : W → List ℕ → W → Type 0) (old : ErrorSink W)
    (bytes : List ℕ)
    (new : ErrorSink W) : Type 0 where
  pub same : SameSink old new
  pub failed : fails (lent_sink old) bytes (lent_sink new)

pub record ErrorSinkFlushes {W : Type 0} (flushes : W → W → Type 0)
    (old new : ErrorSink W) : Type 0 where
  pub same : SameSink old new
  pub passed : flushes (lent_sink old) (lent_sink new)

pub record ErrorSinkFlushFails {W : Type 0} (flush_fails : W → W → Type 0)
    (old new : ErrorSink W) : Type 0 where
  pub same : SameSink old new
  pub failed : flush_fails (lent_sink old) (lent_sink new)

module _ {W : Type 0} (takes : W → List ℕ → W → Type 0) where
  pub error_nothing : ((s : W) → takes s [] s) → (t : ErrorSink W) → ErrorSinkTakes takes t [] t
  error_nothing nothing t = record { same = refl; took = nothing (lent_sink t) }

  pub error_joined : ((s : W) (a : List ℕ) (t : W) (b : List ℕ) (u : W) → takes s a t → takes t b u
      → takes s (a ++ b) u)
      → (s : ErrorSink W) (a : List ℕ) (t : ErrorSink W) (b : List ℕ) (u : ErrorSink W)
      → ErrorSinkTakes takes s a t → ErrorSinkTakes takes t b u → ErrorSinkTakes takes s (a ++ b) u
  error_joined joined s a t b u p q = record {
    same = q.same ∙ p.same;
    took = joined _ a _ b _ p.took q.took;
  }

module _ {W : Type 0} (fails : W → List ℕ → W → Type 0) where
  pub error_early : ((s : W) (a : List ℕ) (t : W) (b : List ℕ) → fails s a t → fails s (a ++ b) t)
      → (s : ErrorSink W) (a : List ℕ) (t : ErrorSink W) (b : List ℕ)
      → ErrorSinkFails fails s a t → ErrorSinkFails fails s (a ++ b) t
  error_early early s a t b p = record { same = p.same; failed = early _ a _ b p.failed }

module _ {W : Type 0} (takes fails : W → List ℕ → W → Type 0) where
  pub error_later : ((s : W) (a : List ℕ) (t : W) (b : List ℕ) (u : W) → takes s a t → fails t b u
      → fails s (a ++ b) u)
      → (s : ErrorSink W) (a : List ℕ) (t : ErrorSink W) (b : List ℕ) (u : ErrorSink W)
      → ErrorSinkTakes takes s a t → ErrorSinkFails fails t b u → ErrorSinkFails fails s (a ++ b) u
  error_later later s a t b u p q = record {
    same = q.same ∙ p.same;
    failed = later _ a _ b _ p.took q.failed;
  }
