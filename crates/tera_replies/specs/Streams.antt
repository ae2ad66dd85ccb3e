-- What passed through the streams of a replay: reader, writer and diagnostics.
use Rattle.std.specs.Prelude.{◌≡◌, ℕ, List, Result, ⊤}
use Rattle.tera_report.specs.Sink.{Delivers}
use Rattle.tera_report.specs.declared.sink.Sink as Sink
use Rattle.tera_report.specs.declared.writer.Writer as Writer
use Rattle.tera_replies.specs.Output.{Broke, TakesOrFails}
use Rattle.tera_replies.specs.Output.{WriterBroke, WriterGets, WriterTakesOrFails}
use Rattle.tera_replies.specs.Source.{ReadEnds, ReadFails, ReadsTo}
use Rattle.tera_replies.specs.declared.source.ReadError.{ReadError}

-- What reads of a source gave: just these bytes, and one more read the last ones; or these, and
-- then one told the end; or these, and then one answered an error.
pub record Input : Type 1 where
  pub gave : List ℕ → List ℕ → Type 0
  pub ended : List ℕ → Type 0
  pub failed : List ℕ → Type 0

-- What the outputs got: these bytes reached `out`; or it broke where it was to get these; and these
-- were put to `err`, as far as that took them.
pub record Streams : Type 1 where
  pub out_gets : List ℕ → Type 0
  pub out_broke : List ℕ → Type 0
  pub err_gets : List ℕ → Type 0

-- the reads that led a source from old to new
abbrev pub reads : {S : Type 0} → (S → List ℕ → Result ℕ ReadError → S → Type 0) → S → S → Input
reads gave old new =
    record {
      gave = λ before last. ReadsTo gave old before last new;
      ended = λ bytes. ReadEnds gave old bytes new;
      failed = λ bytes. ReadFails gave old bytes new;
    }

-- the reads of a source that is then dropped
abbrev pub reads_dropped : {S : Type 0} → (S → List ℕ → Result ℕ ReadError → S → Type 0) → S → Input
reads_dropped {S} gave old =
    record {
      gave = λ before last. (new : S) × ReadsTo gave old before last new;
      ended = λ bytes. (new : S) × ReadEnds gave old bytes new;
      failed = λ bytes. (new : S) × ReadFails gave old bytes new;
    }

-- of reads nothing is said
abbrev pub untold : Input
untold = record { gave = λ _ _. ⊤; ended = λ _. ⊤; failed = λ _. ⊤ }

-- a sink for the answers, beside what is said of the diagnostics
abbrev pub streams_beside : {W F : Type 0} → Sink.Ghosts W F → W → W → (List ℕ → Type 0)
    → Streams
streams_beside sink old new ErrGets =
    record {
      out_gets = λ text. Delivers sink.takes sink.flushes old text new;
      out_broke = Broke sink old new;
      err_gets = ErrGets;
    }

-- two sinks
abbrev pub streams : {W F E G : Type 0} → Sink.Ghosts W F → W → W → Sink.Ghosts E G → E → E
    → Streams
streams w out out_new e err err_new =
    streams_beside w out out_new (λ text. TakesOrFails e.takes e.fails err text err_new)

-- the output got just this text, or broke on just that one, and the diagnostics got just this
abbrev pub just_these : List ℕ → List ℕ → List ℕ → Streams
just_these out broken err =
    record {
      out_gets = λ text. text ≡ out;
      out_broke = λ text. text ≡ broken;
      err_gets = λ text. text ≡ err;
    }

-- two writers
abbrev pub writer_streams : {W E : Type 0} → Writer.Ghosts W → W → W → Writer.Ghosts E → E → E
    → Streams
writer_streams w out out_new e err err_new =
    record {
      out_gets = λ text. WriterGets w.contents w.wrote w.flushed out text out_new;
      out_broke = λ text. WriterBroke w.wrote w.flushed out text out_new;
      err_gets = λ text. WriterTakesOrFails e.contents e.wrote err text err_new;
    }
