-- What is told of a script that was not made.
use Rattle.std.proofs.Common.{◌≡◌, ◌∙◌, ℕ, List, ◌++◌, Result, Ok, Err, inl, inr, ap, codes, subst}
use Rattle.tera_meaning.specs.Form.{Form}
use Rattle.tera_replies.specs.Output.{TakesOrFails}
use Rattle.tera_report.specs.Errors.{IsOutOfMemory, Raises, kind_of, refusal_of}
use Rattle.tera_report.specs.Refusal.{Tells, message}
use Rattle.tera_report.specs.Sink.{OfSome, Puts}
use Rattle.tera_report.specs.declared.errors.Error.{Error}
use Rattle.tera_script.specs.Saved.{RefusesScript, bad_name, deep_value}
use Rattle.tera_cli.specs.Saved.{IsErrorLine, IsUnsaved}

-- what was told was put, or putting it failed
pub some_comes : {S E : Type 0} (takes fails : S → List ℕ → S → Type 0) (put : Result (Unit {0}) E) (P : List ℕ → Type 0) (old new : S)
    → Puts takes fails put P old new → OfSome (TakesOrFails takes fails) P old new
some_comes takes fails (Ok done) P old new (bytes, has, h) = (bytes, has, inl h)
some_comes takes fails (Err fault) P old new (bytes, has, h) = (bytes, has, inr h)

no_memory_line : (error : Error) (bytes : List ℕ) → IsOutOfMemory error → IsErrorLine (refusal_of (kind_of error)) bytes
    → bytes ≡ codes "error: Out of memory\n"
no_memory_line error bytes is line =
    let (text, tells, whole) = subst (λ e. IsErrorLine (refusal_of (kind_of e)) bytes) is line in
    whole ∙ ap (λ t. codes "error: " ++ (t ++ codes "\n")) tells

message_line : (error : Error) (words bytes : List ℕ) → refusal_of (kind_of error) ≡ message words
    → IsErrorLine (refusal_of (kind_of error)) bytes → bytes ≡ codes "error: " ++ (words ++ codes "\n")
message_line error words bytes is line =
    let (text, tells, whole) = subst (λ refusal. IsErrorLine refusal bytes) is line in
    whole ∙ ap (λ t. codes "error: " ++ (t ++ codes "\n")) tells

-- the line of an error for which no script was made says why
pub unsaved : (entries : List (List ℕ × Form)) (error : Error) (bytes : List ℕ) → RefusesScript entries error
    → IsErrorLine (refusal_of (kind_of error)) bytes → IsUnsaved entries bytes
unsaved entries error bytes (inl is) line = inl (no_memory_line error bytes is line)
unsaved entries error bytes (inr (inl (name, has, inl states))) line =
    inr (inl (name, has, message_line error (bad_name name) bytes states.kind line))
unsaved entries error bytes (inr (inl (name, has, inr is))) line = inl (no_memory_line error bytes is line)
unsaved entries error bytes (inr (inr (name, has, inl states))) line =
    inr (inr (name, has, message_line error (deep_value name) bytes states.kind line))
unsaved entries error bytes (inr (inr (name, has, inr is))) line = inl (no_memory_line error bytes is line)
