-- One stretch of puts and flushes after another, and what stretches on a watched writer say of the writer.
use Rattle.std.specs.Prelude.{ℕ, List, [], ◌∷◌, ◌++◌, Option, Result, refl}
use Rattle.std.proofs.Common.{◌∙◌, ap, subst, append-nil}
use Rattle.std.proofs.KnownBytes.{Appends-nil, Appends-trans}
use Rattle.std.proofs.lemmas.List.Concat.{flat_map-append}
use Rattle.std.specs.declared.io.Error.{Error}
use Rattle.std.specs.Io.KnownBytes.{Appends, Keeps}
use Rattle.std.specs.List.{FoldsTo, flat_map}
use Rattle.tera_report.specs.declared.watch.Watched.{Watched}
use Rattle.tera_report.specs.Sink.{Use, put, flush, bytes_put, Uses, Sends, Delivers}
use Rattle.tera_report.specs.inner.SinkLaws.{keeps_appends}
use Rattle.tera_report.specs.Watch.{held, watched_writer, WatchedTakes, WatchedFlushes}
use Rattle.tera_report.specs.Writer.{Passes, Flushes}
use Rattle.tera_report.specs.inner.WriterLaws.{folds_joined}

module _ {S : Type 0} (takes : S → List ℕ → S → Type 0) (flushes : S → S → Type 0) where
  pub sends_nothing : (s : S) → Sends takes flushes s [] s
  sends_nothing s = record { uses = []; turns = refl; whole = refl }

  pub sends_put : (s : S) (a : List ℕ) (t : S) → takes s a t → Sends takes flushes s a t
  sends_put s a t p = record { uses = put a ∷ []; turns = (t, p, refl); whole = append-nil a }

  pub sends_flush : (s t : S) → flushes s t → Sends takes flushes s [] t
  sends_flush s t p = record { uses = flush ∷ []; turns = (t, p, refl); whole = refl }

  pub sends_joined : (s : S) (a : List ℕ) (t : S) (b : List ℕ) (u : S)
      → Sends takes flushes s a t → Sends takes flushes t b u → Sends takes flushes s (a ++ b) u
  sends_joined s a t b u p q = record {
    uses = p.uses ++ q.uses;
    turns = folds_joined (Uses takes flushes) s p.uses t q.uses u p.turns q.turns;
    whole = flat_map-append bytes_put p.uses q.uses ∙ (λ i. p.whole i ++ q.whole i);
  }

  -- what is known of a sink grows by what is sent
  module _ (known : S → Option (List ℕ)) (grows : (s : S) (a : List ℕ) (t : S) → takes s a t → Appends (known s) (known t) a)
      (keeps : (s t : S) → flushes s t → Keeps (known s) (known t)) where
    turns_append : (s : S) (uses : List Use) (t : S) → FoldsTo (Uses takes flushes) s uses t
        → Appends (known s) (known t) (flat_map bytes_put uses)
    turns_append s [] t p = subst (λ (x : S). Appends (known s) (known x) []) p (Appends-nil (known s))
    turns_append s (put a ∷ uses) t (mid, p, later) =
        Appends-trans (known s) (known mid) (known t) a (flat_map bytes_put uses) (grows s a mid p) (turns_append mid uses t later)
    turns_append s (flush ∷ uses) t (mid, p, later) =
        Appends-trans (known s) (known mid) (known t) [] (flat_map bytes_put uses) (keeps_appends (known s) (known mid) (keeps s mid p))
        (turns_append mid uses t later)

    pub sends_append : (s : S) (a : List ℕ) (t : S) → Sends takes flushes s a t → Appends (known s) (known t) a
    sends_append s a t p = subst (Appends (known s) (known t)) p.whole (turns_append s p.uses t p.turns)

  -- what is sent to a sink that stands for another is sent to that one
  module _ {T : Type 0} (seen : S → T) (gets : T → List ℕ → T → Type 0) (empties : T → T → Type 0)
      (each : (s : S) (a : List ℕ) (t : S) → takes s a t → gets (seen s) a (seen t))
      (also : (s t : S) → flushes s t → empties (seen s) (seen t)) where
    turns_seen : (s : S) (uses : List Use) (t : S) → FoldsTo (Uses takes flushes) s uses t
        → FoldsTo (Uses gets empties) (seen s) uses (seen t)
    turns_seen s [] t p = ap seen p
    turns_seen s (put a ∷ uses) t (mid, p, later) = (seen mid, each s a mid p, turns_seen mid uses t later)
    turns_seen s (flush ∷ uses) t (mid, p, later) = (seen mid, also s mid p, turns_seen mid uses t later)

    pub sends_seen : (s : S) (a : List ℕ) (t : S) → Sends takes flushes s a t → Sends gets empties (seen s) a (seen t)
    sends_seen s a t p = record { uses = p.uses; turns = turns_seen s p.uses t p.turns; whole = p.whole }

module _ {W : Type 0} (contents : W → Option (List ℕ)) (wrote : W → List ℕ → Result ℕ Error → W → Type 0) (flushed : W → Result (Unit {0}) Error → W → Type 0)
  where
    -- what is sent to a watched writer is appended to what its writer holds
    pub watched_appends : (s : Watched W) (a : List ℕ) (t : Watched W)
        → Sends (WatchedTakes contents wrote) (WatchedFlushes contents flushed) s a t → Appends (held contents s) (held contents t) a
    watched_appends = sends_append (WatchedTakes contents wrote) (WatchedFlushes contents flushed) (held contents) (λ s a t p. p.grows) (λ s t p. p.keeps)

    -- it is written to that writer
    pub watched_sends : (s : Watched W) (a : List ℕ) (t : Watched W)
        → Sends (WatchedTakes contents wrote) (WatchedFlushes contents flushed) s a t
        → Sends (Passes wrote) (Flushes flushed) (watched_writer s) a (watched_writer t)
    watched_sends = sends_seen (WatchedTakes contents wrote) (WatchedFlushes contents flushed) watched_writer (Passes wrote) (Flushes flushed)
        (λ s a t p. p.passed) (λ s t p. p.passed)

    pub watched_delivers : (s : Watched W) (a : List ℕ) (t : Watched W)
        → Delivers (WatchedTakes contents wrote) (WatchedFlushes contents flushed) s a t
        → Appends (held contents s) (held contents t) a
        × Delivers (Passes wrote) (Flushes flushed) (watched_writer s) a (watched_writer t)
    watched_delivers s a t (sent, p, q) = (
      subst (Appends (held contents s) (held contents t)) (append-nil a)
          (watched_appends s (a ++ []) t (sends_joined _ _ s a sent [] t p (sends_flush (WatchedTakes contents wrote) _ sent t q))),
      (watched_writer sent, watched_sends s a sent p, q.passed),
    )
