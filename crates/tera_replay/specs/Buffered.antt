-- What a buffer before the output gets.
use Rattle.std.specs.Prelude.{◌≡◌, ℕ, List, [], Option, None, Some, Result}
use Rattle.std.specs.declared.io.Error.{Error}
use Rattle.tera_report.specs.declared.writer.Writer.{Ghosts}
use Rattle.tera_replies.specs.Output.{WriterBroke, WriterGets, WriterTakesOrFails}
use Rattle.tera_replies.specs.Streams.{Streams}

-- the buffer got these bytes, and no others, and is handed back; where there is none, there are
-- none to get
abbrev pub BufferGets : {B : Type 0} → (B → Option (List ℕ))
    → (B → List ℕ → Result ℕ Error → B → Type 0) → (B → Result (Unit {0}) Error → B → Type 0)
    → Option B → Option B → List ℕ → Type 0
BufferGets contents wrote flushed None new text = (text ≡ []) × (new ≡ None)
BufferGets contents wrote flushed (Some old) None text = ⊥
BufferGets contents wrote flushed (Some old) (Some new) text =
    WriterGets contents wrote flushed old text new

-- a write to the buffer was a fault, or a flush of it failed, where it was to get these bytes
abbrev pub BufferBroke : {B : Type 0} → (B → List ℕ → Result ℕ Error → B → Type 0)
    → (B → Result (Unit {0}) Error → B → Type 0) → Option B → Option B → List ℕ → Type 0
BufferBroke wrote flushed None new text = ⊥
BufferBroke wrote flushed (Some old) None text = ⊥
BufferBroke wrote flushed (Some old) (Some new) text = WriterBroke wrote flushed old text new

-- a buffer, where there is one, and a writer
abbrev pub buffer_streams : {B E : Type 0} → Ghosts B → Option B → Option B → Ghosts E → E → E
    → Streams
buffer_streams b out out_new e err err_new =
    record {
      out_gets = BufferGets b.contents b.wrote b.flushed out out_new;
      out_broke = BufferBroke b.wrote b.flushed out out_new;
      err_gets = λ text. WriterTakesOrFails e.contents e.wrote err text err_new;
    }
