-- Runs of one character, and the pieces of reports with their lengths.
use Rattle.std.proofs.lemmas.List.{nil_from_length, drop_more, length-append, length-map, length-replicate, length-take, map-append, take-append-drop}
use Rattle.std.proofs.lemmas.List.{take-replicate}
use Rattle.std.proofs.Common.{◌≡◌, ℕ, ◌+◌, ◌-◌, ◌<◌, ◌≤◌, List, [], ◌∷◌, ◌++◌, min, length, replicate, map, codes, take, drop, get_or, slice_range, refl, sym}
use Rattle.std.proofs.Common.{ap, ◌∙◌, arith, append_assoc}
use Rattle.std.proofs.lemmas.List.Concat.{flat_map-append}
use Rattle.std.proofs.lemmas.List.Elements.{All-replicate}
use Rattle.std.proofs.lemmas.Str.{chars-nil, chars_from_encodes, chars-IsAscii}
use Rattle.std.specs.Str.{IsCharBoundary, chars}
use Rattle.std.specs.Fmt.{decimal}
use Rattle.std.specs.List.{flat_map, join_with_byte, sum}
use Rattle.tera_report.specs.declared.span.Span.{Span}
use Rattle.tera_report.specs.Parts.{line_feed}
use Rattle.tera_report.specs.Report.{Note, Report, space, error_lines, line_of, line_of_note, margin, note_text, numbered_line, place_text, shown_lines}
use Rattle.tera_report.specs.Report.{underline, width}
use Rattle.tera_report.specs.inner.Report.{frame_text, shown_place}

-- a run of one ASCII character may be cut at any place, and its front is a run
pub run_cut : (n k c : ℕ) → c < 128 → k ≤ n → IsCharBoundary (replicate n c) k
run_cut n k c low within = (
  omega (arith, length-replicate n c, within),
  λ inside high. absurd (omega (arith, high, All-replicate (λ b. b < 128) n c low k 0 inside)),
)

pub run_front : (n k c : ℕ) → k ≤ n → slice_range (replicate n c) 0 k ≡ replicate k c
run_front n k c within = let all : k - 0 ≡ k = omega arith in ap (λ m. take m (replicate n c)) all ∙ take-replicate k n c within

-- what is made of each element is none where there is none
pub no_notes : {X Y : Type 0} (f : X → Y) (xs : List X) → map f xs ≡ [] → length xs ≡ 0
no_notes f xs e = sym (length-map xs f) ∙ ap length e

pub no_characters : (xs : List ℕ) → length xs ≡ 0 → chars xs ≡ []
no_characters xs e = ap chars (nil_from_length xs e) ∙ chars-nil

pub ruleset same_count = (chars_from_encodes, chars-IsAscii)

-- ---- the pieces of a report, one behind another

frame_whole : (file number column line under : List ℕ) → let margin = replicate (length number) space in
    frame_text file number column line ++ under
    ≡ (file ++ (codes ":" ++ (number ++ (codes ":" ++ column))))
    ++ line_feed ∷ ((margin ++ codes " |") ++ line_feed ∷ ((number ++ (codes " | " ++ line)) ++ line_feed ∷ (margin ++ (codes " | " ++ under))))
frame_whole file number column line under = simp append_assoc

pub place_whole : (file number column line : List ℕ) (span : Span) → number ≡ decimal span.start_line → column ≡ decimal (span.start_col + 1)
    → frame_text file number column line ++ underline line span ≡ shown_place file line span
place_whole file number column line span n c =
    (λ i. frame_text file (n i) (c i) line ++ underline line span)
    ∙ frame_whole file (decimal span.start_line) (decimal (span.start_col + 1)) line (underline line span)

note_pieces : (label place rest : List ℕ) → (codes "\n\nnote: " ++ (label ++ (codes " " ++ []))) ++ (place ++ rest)
    ≡ line_feed ∷ line_feed ∷ ((codes "note: " ++ (label ++ (codes " " ++ place))) ++ rest)
note_pieces label place rest = simp append_assoc

pub note_whole : (label file line : List ℕ) (note : Note) → label ≡ note.label → file ≡ note.file → line ≡ line_of_note note
    → (codes "\n\nnote: " ++ (label ++ (codes " " ++ []))) ++ shown_place file line note.span ≡ note_text note
note_whole label file line note l f s =
    (λ i. (codes "\n\nnote: " ++ (l i ++ (codes " " ++ []))) ++ shown_place (f i) (s i) note.span)
    ∙ note_pieces note.label (place_text note.file note.span) (line_feed ∷ join_with_byte line_feed (shown_lines (line_of_note note) note.span))

head_pieces : (message before place rest : List ℕ) → (codes "error: " ++ (message ++ (codes "\n" ++ (before ++ (codes "--> " ++ []))))) ++ (place ++ rest)
    ≡ (codes "error: " ++ message) ++ line_feed ∷ ((before ++ (codes "--> " ++ place)) ++ rest)
head_pieces message before place rest = simp append_assoc

pub head_whole : (message before file line : List ℕ) (report : Report) → message ≡ report.message → before ≡ margin report.span
    → file ≡ report.file → line ≡ line_of report
    → (codes "error: " ++ (message ++ (codes "\n" ++ (before ++ (codes "--> " ++ []))))) ++ shown_place file line report.span
    ≡ join_with_byte line_feed (error_lines report)
head_whole message before file line report m b f s =
    (λ i. (codes "error: " ++ (m i ++ (codes "\n" ++ (b i ++ (codes "--> " ++ []))))) ++ shown_place (f i) (s i) report.span)
    ∙ head_pieces report.message (margin report.span) (place_text report.file report.span)
    (line_feed ∷ join_with_byte line_feed (shown_lines (line_of report) report.span))

-- the notes are those before one, that one, and those behind it
pub notes_split : {X Y : Type 0} (text : Y → List ℕ) (held : X → Y) (all : List X) (i : ℕ) (x : X) → i < length all → x ≡ get_or all i x
    → flat_map text (map held (take i all)) ++ (text (held x) ++ flat_map text (map held (drop (i + 1) all))) ≡ flat_map text (map held all)
notes_split text held all i x within is =
    let rest : drop i all ≡ x ∷ drop (i + 1) all = drop_more all i x within ∙ ap (λ v. v ∷ drop (i + 1) all) (sym is) in
    ap (λ l. flat_map text (map held (take i all)) ++ flat_map text (map held l)) (sym rest)
    ∙ sym (flat_map-append text (map held (take i all)) (map held (drop i all)))
    ∙ ap (flat_map text) (sym (map-append held (take i all) (drop i all)) ∙ ap (map held) (take-append-drop i all))

-- ---- lengths

frame_length : (file number column line : List ℕ) → length (frame_text file number column line)
    ≡ length file + (1 + (length number + (1 + (length column + (1 + (length number +
    (3 + (length number + (3 + (length line + (1 + (length number + 3))))))))))))
frame_length file number column line = simp (length-append, length-replicate) (omega arith)

underline_length : (line : List ℕ) (span : Span) → length (underline line span) ≡ min span.start_col (length (chars line)) + width span
underline_length line span = simp (length-append, length-map, length-take, length-replicate)

pub place_length : (file line : List ℕ) (span : Span) → length (shown_place file line span)
    ≡ (let number = length (decimal span.start_line) in
    sum (13 ∷ length file ∷ number ∷ length (decimal (span.start_col + 1)) ∷ number ∷ number ∷ length line ∷ number
    ∷ min span.start_col (length (chars line)) ∷ width span ∷ []))
place_length file line span =
    let number = decimal span.start_line in
    let column = decimal (span.start_col + 1) in
    let whole = ap length (place_whole file number column line span refl refl) in
    let parts = length-append (frame_text file number column line) (underline line span) in
    omega (arith, whole, parts, frame_length file number column line, underline_length line span)

pub note_length : (label file source : List ℕ) (span : Span) → length (note_text (record { label = label; file = file; source = source; span = span }))
    ≡ 9 + length label + length (shown_place file (numbered_line source span.start_line) span)
note_length label file source span =
    let note : Note = record { label = label; file = file; source = source; span = span } in
    let place = shown_place file (line_of_note note) span in
    let parts : length ((codes "\n\nnote: " ++ (label ++ (codes " " ++ []))) ++ place) ≡ 9 + length label + length place = simp length-append (omega arith) in
    sym (ap length (note_whole label file (line_of_note note) note refl refl refl)) ∙ parts

pub head_length : (message file source : List ℕ) (span : Span)
    → length (join_with_byte line_feed (error_lines (record { message = message; file = file; source = source; span = span; notes = [] })))
    ≡ 12 + length message + length (decimal span.start_line) + length (shown_place file (numbered_line source span.start_line) span)
head_length message file source span =
    let report : Report = record { message = message; file = file; source = source; span = span; notes = [] } in
    let before = margin span in
    let place = shown_place file (line_of report) span in
    let parts : length ((codes "error: " ++ (message ++ (codes "\n" ++ (before ++ (codes "--> " ++ []))))) ++ place) ≡ 12 + length message + length before
    + length place = simp length-append (omega arith) in
    sym (ap length (head_whole message before file (line_of report) report refl refl refl refl)) ∙ parts
    ∙ ap (λ n. 12 + length message + n + length place) (length-replicate (length (decimal span.start_line)) space)
