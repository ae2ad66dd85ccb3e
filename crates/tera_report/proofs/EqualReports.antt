-- Texts, spans, notes and reports are equal exactly where all that they hold is.
use lib.Pointwise.{pointwise, bytes_decides}
use Rattle.std.specs.String.{string_eq}
use Rattle.std.proofs.Common.{Bool, ◌&&◌, ◌==◌, ◌≡◌, List, [], ◌∷◌, String, Global, string_bytes, map, ap, refl, Decides}
use Rattle.std.proofs.lemmas.Bool.Decides.{Decides-and, Decides-eqb, Decides-like}
use Rattle.tera_report.specs.Errors.{note_of, report_of}
use Rattle.tera_report.specs.declared.report.Note.{Note}
use Rattle.tera_report.specs.declared.report.ReportError.{ReportError}
use Rattle.tera_report.specs.declared.span.Span.{Span}

pub texts_equal : (s t : String Global) → Decides (string_eq s t) (string_bytes s ≡ string_bytes t)
texts_equal s t = bytes_decides (string_bytes s) (string_bytes t)

-- lists are equal by their items
pub items_equal : {X Y : Type 0} (same : X → X → Bool) (held : X → Y) → ((x y : X) → Decides (same x y) (held x ≡ held y))
    → (xs ys : List X) → Decides (pointwise same xs ys) (map held xs ≡ map held ys)
items_equal same held each [] [] = ((λ h. refl), (λ e. refl))
items_equal same held each (x ∷ xs) (y ∷ ys) =
    Decides-like _ (λ h i. h.0 i ∷ h.1 i) (λ e. ((cc), (cc))) (Decides-and _ _ (each x y) (items_equal same held each xs ys))
items_equal same held each xs ys = ((λ h. absurd (cc)), (λ e. absurd (cc)))

abbrev span_eq : Span → Span → Bool
span_eq a b =
    a.start_line == b.start_line && (a.start_col == b.start_col && (a.end_line == b.end_line && (a.end_col == b.end_col
    && (a.range.start == b.range.start && a.range.end == b.range.end))))

spans_equal : (a b : Span) → Decides (span_eq a b) (a ≡ b)
spans_equal a b =
    Decides-like _
    (λ (l, (c, (m, (d, (s, e))))) i. record { start_line = l i; start_col = c i; end_line = m i; end_col = d i; range = record { start = s i; end = e i } })
    (λ e. (
      ap (λ s. s.start_line) e,
      (
        ap (λ s. s.start_col) e,
        (
          ap (λ s. s.end_line) e,
          (
            ap (λ s. s.end_col) e,
            (ap (λ s. s.range.start) e, ap (λ s. s.range.end) e),
          ),
        ),
      ),
    ))
    (Decides-and _ _ (Decides-eqb _ _) (Decides-and _ _ (Decides-eqb _ _) (Decides-and _ _ (Decides-eqb _ _) (Decides-and _ _ (Decides-eqb _ _)
    (Decides-and _ _ (Decides-eqb _ _) (Decides-eqb _ _))))))

abbrev note_eq : Note → Note → Bool
note_eq a b = string_eq a.label b.label && (string_eq a.filename b.filename && (string_eq a.source b.source && span_eq a.span b.span))

notes_equal : (a b : Note) → Decides (note_eq a b) (note_of a ≡ note_of b)
notes_equal a b =
    Decides-like _ (λ (label, (file, (source, span))) i. record { label = label i; file = file i; source = source i; span = span i })
    (λ e. (ap (λ n. n.label) e, (ap (λ n. n.file) e, (ap (λ n. n.source) e, ap (λ n. n.span) e))))
    (Decides-and _ _ (texts_equal a.label b.label) (Decides-and _ _ (texts_equal a.filename b.filename)
    (Decides-and _ _ (texts_equal a.source b.source) (spans_equal a.span b.span))))

abbrev report_eq : ReportError → ReportError → Bool
report_eq a b =
    string_eq a.message b.message && (string_eq a.filename b.filename && (string_eq a.source b.source && (span_eq a.span b.span
    && pointwise note_eq a.notes.items b.notes.items)))

pub reports_equal : (a b : ReportError) → Decides (report_eq a b) (report_of a ≡ report_of b)
reports_equal a b =
    Decides-like _
    (λ (message, (file, (source, (span, notes)))) i. record { message = message i; file = file i; source = source i; span = span i; notes = notes i })
    (λ e. (ap (λ r. r.message) e, (ap (λ r. r.file) e, (ap (λ r. r.source) e, (ap (λ r. r.span) e, ap (λ r. r.notes) e)))))
    (Decides-and _ _ (texts_equal a.message b.message) (Decides-and _ _ (texts_equal a.filename b.filename)
    (Decides-and _ _ (texts_equal a.source b.source) (Decides-and _ _ (spans_equal a.span b.span)
    (items_equal note_eq note_of notes_equal a.notes.items b.notes.items)))))
