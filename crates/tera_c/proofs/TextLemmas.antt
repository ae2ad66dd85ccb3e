-- What is sent to a text stands in it; and it has not failed on anything where no memory was refused.
use Rattle.std.proofs.Common.{◌≡◌, ℕ, ◌-◌, ◌^◌, ◌<◌, Bool, true, false, ◌⊎◌, inl, inr, List, [], ◌∷◌, ◌++◌, length, Some, ap, sym, subst, ◌∙◌}
use Rattle.std.proofs.Common.{arith, length-append}
use Rattle.std.proofs.lemmas.Bool.{false≢true}
use Rattle.std.specs.List.{FoldsTo, flat_map}
use Rattle.tera_report.specs.Growing.{GrowingTakes, grown_bytes}
use Rattle.tera_report.specs.Sink.{Use, put, flush, bytes_put, Uses, Sends, Delivers}
use Rattle.tera_report.specs.declared.growing.Growing.{Growing}
use Rattle.tera_report.specs.inner.SinkLaws.{growing_nothing, growing_joined}
use Rattle.tera_replies.specs.Output.{BrokeOn, TakesOrFails}
use Rattle.tera_replies.specs.Replay.{Replays, Writes, AllAnswered, MemoryFailed}
use Rattle.tera_replies.specs.Source.{bytes_left, fails_at_end}
use Rattle.tera_replies.specs.Streams.{Input, Streams, reads, reads_dropped}
use Rattle.tera_replies.specs.declared.source.InputPieces.{InputPieces}
use Rattle.tera_replies.proofs.ReplayLaws.{replay_weaker}
use Rattle.tera_c.specs.inner.FallibleText.{TextTakes, TextFails, text_bytes}
use Rattle.tera_c.specs.Scripts.{Comes, GivesNext}
use Rattle.tera_c.specs.declared.fallible_text.FallibleText.{FallibleText}
use Rattle.tera_c.specs.inner.FallibleTextLaws.{text_nothing, text_joined}

abbrev Same : {S : Type 0} → S → S → Type 0
Same old new = new ≡ old

-- a sink that keeps nothing back takes what it is sent
module _ {S : Type 0} (takes : S → List ℕ → S → Type 0) (nothing : (s : S) → takes s [] s)
    (joined : (s : S) (a : List ℕ) (t : S) (b : List ℕ) (u : S) → takes s a t → takes t b u → takes s (a ++ b) u) where
  turns_taken : (s : S) (uses : List Use) (t : S) → FoldsTo (Uses takes Same) s uses t → takes s (flat_map bytes_put uses) t
  turns_taken s [] t p = subst (takes s []) p (nothing s)
  turns_taken s (put a ∷ uses) t (mid, p, later) = joined s a mid (flat_map bytes_put uses) t p (turns_taken mid uses t later)
  turns_taken s (flush ∷ uses) t (mid, p, later) = subst (λ (m : S). takes m (flat_map bytes_put uses) t) p (turns_taken mid uses t later)

  sent_taken : (s : S) (bytes : List ℕ) (t : S) → Sends takes Same s bytes t → takes s bytes t
  sent_taken s bytes t p = subst (λ (b : List ℕ). takes s b t) p.whole (turns_taken s p.uses t p.turns)

-- an empty text that took some bytes holds just these
took_is : (s : Growing) (bytes : List ℕ) (t : Growing) → grown_bytes s ≡ [] → GrowingTakes s bytes t → grown_bytes t ≡ bytes
took_is s bytes t empty p = p.grows ∙ ap (λ (front : List ℕ). front ++ bytes) empty

pub sent_is : (s : Growing) (bytes : List ℕ) (t : Growing) → grown_bytes s ≡ [] → Sends GrowingTakes Same s bytes t → grown_bytes t ≡ bytes
sent_is s bytes t empty p = took_is s bytes t empty (sent_taken GrowingTakes growing_nothing growing_joined s bytes t p)

pub delivered_is : (s : FallibleText) (bytes : List ℕ) (t : FallibleText) → text_bytes s ≡ [] → Delivers TextTakes Same s bytes t → text_bytes t ≡ bytes
delivered_is s bytes t empty (sent, p, q) =
    ap text_bytes q ∙ took_is s.text bytes sent.text empty (sent_taken TextTakes text_nothing text_joined s bytes sent p).0

-- where no memory was refused, no text failed
refused_both : (t : FallibleText) → t.refused ≡ false → t.refused ≡ true → ⊥
refused_both t none one = false≢true (sym none ∙ one)

pub never_broke : (s : FallibleText) (bytes : List ℕ) (t : FallibleText) → t.refused ≡ false
    → BrokeOn TextTakes TextFails Same (λ (a b : FallibleText). ⊥) s bytes t → ⊥
never_broke s bytes t none h = elim h.fault [
  | inl (rest, is, failed) ↦ refused_both t none failed.1
  | inr (is, failed) ↦ absurd failed
]

pub told_is : (s : FallibleText) (bytes : List ℕ) (t : FallibleText) → text_bytes s ≡ [] → t.refused ≡ false → TakesOrFails TextTakes TextFails s bytes t
    → text_bytes t ≡ bytes
told_is s bytes t empty none (inl (p, same)) = took_is s.text bytes t.text empty p
told_is s bytes t empty none (inr (p, refused)) = absurd (refused_both t none refused)

-- where no write fails and the script ends, each line was answered, or no memory was found
never_fails : (script : List ℕ) (input : Input) (out err : List ℕ) (status : ℕ) → length script < 2 ^ 64 - 1
    → Writes script (Some false) input out err status
    → AllAnswered script (Some false) input out err status ⊎ MemoryFailed script input out err status
never_fails script input out err status short (inl h) = inl h
never_fails script input out err status short (inr (inr h)) = inr h
never_fails script input out err status short (inr (inl h)) = elim h.cause [
  | inl (may, failed) ↦ absurd may
  | inr (long, gave) ↦ absurd (omega (arith, long, short, ap length h.front, length-append h.given h.rest))
]

-- two texts that hold these, of which the first never broke
abbrev whole_texts : List ℕ → List ℕ → Streams
whole_texts answers report =
    record {
      out_gets = λ text. answers ≡ text;
      out_broke = λ text. ⊥;
      err_gets = λ text. report ≡ text;
    }

came_where : (script answers report : List ℕ) (input : Input) (status : ℕ) → length script < 2 ^ 64 - 1
    → Replays script (Some false) input (whole_texts answers report) status
    → AllAnswered script (Some false) input answers report status ⊎ MemoryFailed script input answers report status
came_where script answers report input status short (inl (out, err, writes, is, told)) =
    rw (is, told) (never_fails script input out err status short writes)
came_where script answers report input status short (inr (out, failed, broke, is, told)) = absurd broke

-- what a replay to two texts says, in words of what they hold
pub comes_where : (script answers report : List ℕ) (status : ℕ) (source new : InputPieces) (OutGets OutBroke ErrGets : List ℕ → Type 0)
    → length script < 2 ^ 64 - 1 → bytes_left source ≡ script → fails_at_end source ≡ false
    → ((text : List ℕ) → OutGets text → answers ≡ text) → ((text : List ℕ) → OutBroke text → ⊥)
    → ((text : List ℕ) → ErrGets text → report ≡ text)
    → Replays (bytes_left source) (Some (fails_at_end source)) (reads GivesNext source new)
    (record { out_gets = OutGets; out_broke = OutBroke; err_gets = ErrGets }) status
    → Comes script answers report status
comes_where script answers report status source new OutGets OutBroke ErrGets short is ends out broke err h =
    let Replayed : List ℕ → Bool → Type 0 = λ bytes fails. Replays bytes (Some fails) (reads_dropped GivesNext source) (whole_texts answers report) status in
    let weaker : Replayed (bytes_left source) (fails_at_end source) =
    replay_weaker {first = record { out_gets = OutGets; out_broke = OutBroke; err_gets = ErrGets }}
    {second = whole_texts answers report} out broke err {input = reads GivesNext source new}
    {other = reads_dropped GivesNext source} (λ before last steps. (new, steps)) (λ given end. (new, end)) (λ given failed. (new, failed)) h in
    record {
      source = source;
      bytes = is;
      ends = ends;
      came = came_where script answers report (reads_dropped GivesNext source) status short
          (subst (λ (f : Bool). Replayed script f) ends (subst (λ (b : List ℕ). Replayed b (fails_at_end source)) is weaker));
    }
