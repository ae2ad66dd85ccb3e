-- The word, what tells the refusal and the line feed stand one behind another.
use Rattle.std.proofs.Common.{◌∙◌, ap, refl, List, [], ◌∷◌, ◌++◌, ℕ, append_assoc, codes}
use Rattle.tera_report.specs.Growing.{grown_bytes}
use Rattle.tera_replies.specs.Script.{ended, line_feed}
use Rattle.tera_c.proofs.session_values.put_refusal.Goals as goal

pub returns : goal.returns
returns c =
    let old = grown_bytes c.args.text.now in
    let (words, told, took) = c.in_ok-tell_to.ensures in
    let line = codes "error: " ++ words in (
      ended line,
      (line, (words, told, refl), refl),
      c.in_ok-put-2.ensures.puts.grows
          ∙ ap (λ (front : List ℕ). front ++ line_feed ∷ [])
          (took.grows ∙ ap (λ (front : List ℕ). front ++ words) c.in_ok-put.ensures.puts.grows ∙ append_assoc old (codes "error: ") words)
          ∙ append_assoc old line (line_feed ∷ []),
    )
