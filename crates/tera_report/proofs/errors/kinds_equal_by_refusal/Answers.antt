-- Of each pair of kinds: the texts are the same, or the kinds differ.
use Rattle.std.proofs.Common.{rules, ap, refl, string_bytes, ℕ}
use Rattle.std.proofs.lemmas.Bool.{false≢true}
use Rattle.std.proofs.lemmas.Bool.Decides.{Decides-and, Decides-like}
use Rattle.std.specs.String.{string_eq}
use Rattle.std.specs.contracts.io.ErrorKind.{the_type}
use borrow.Author.Tests.{eqb_apart}
use denote.Enum.Bare.{same_true, true_same}
use Rattle.tera_report.specs.Errors.{refusal_of}
use Rattle.tera_report.specs.Refusal.{Refusal, message, syntax_error, rendering_error, writing_failed, template_not_found, component_not_found}
use Rattle.tera_report.specs.Refusal.{missing_argument, circular_extend, circular_include, missing_parent, invalid_argument, out_of_range, not_utf8}
use Rattle.tera_report.specs.declared.errors.ErrorKind.TheVariants.{Msg, SyntaxError, RenderingError, CircularExtend, CircularInclude, MissingParent}
use Rattle.tera_report.specs.declared.errors.ErrorKind.TheVariants.{TemplateNotFound, ComponentNotFound, InvalidArgument, MissingArgument, OutOfRangeArgument}
use Rattle.tera_report.specs.declared.errors.ErrorKind.TheVariants.{Io, Utf8Conversion, OutOfMemory}
use Rattle.tera_report.proofs.EqualReports.{texts_equal, items_equal, reports_equal}
use Rattle.tera_report.proofs.errors.kinds_equal_by_refusal.Goals as goal

-- the place of a kind among all: kinds that differ are told apart by it, which is cheap where their pairs are many
abbrev place_of : Refusal → ℕ
place_of (message t) = 0
place_of (syntax_error r) = 1
place_of (rendering_error r) = 2
place_of (circular_extend t chain) = 3
place_of (circular_include t chain) = 4
place_of (missing_parent current parent) = 5
place_of (template_not_found n) = 6
place_of (component_not_found n) = 7
place_of (invalid_argument expected actual) = 8
place_of (missing_argument n) = 9
place_of (out_of_range v target) = 10
place_of (writing_failed kind) = 11
place_of not_utf8 = 12
place_of r = 13

pub returns : goal.returns
returns c (Msg s) (Msg t) = Decides-like _ (ap message) (λ e. cc) (texts_equal s t)
returns c (SyntaxError s) (SyntaxError t) = Decides-like _ (ap syntax_error) (λ e. cc) (reports_equal s.value t.value)
returns c (RenderingError s) (RenderingError t) = Decides-like _ (ap rendering_error) (λ e. cc) (reports_equal s.value t.value)
returns c (TemplateNotFound s) (TemplateNotFound t) = Decides-like _ (ap template_not_found) (λ e. cc) (texts_equal s t)
returns c (ComponentNotFound s) (ComponentNotFound t) = Decides-like _ (ap component_not_found) (λ e. cc) (texts_equal s t)
returns c (MissingArgument s) (MissingArgument t) = Decides-like _ (ap missing_argument) (λ e. cc) (texts_equal s t)
returns c (CircularExtend s xs) (CircularExtend t ys) =
    Decides-like _ (λ h. cc) (λ e. ((cc), (cc))) (Decides-and _ _ (texts_equal s t) (items_equal string_eq string_bytes texts_equal xs.items ys.items))
returns c (CircularInclude s xs) (CircularInclude t ys) =
    Decides-like _ (λ h. cc) (λ e. ((cc), (cc))) (Decides-and _ _ (texts_equal s t) (items_equal string_eq string_bytes texts_equal xs.items ys.items))
returns c (MissingParent s u) (MissingParent t v) = Decides-like _ (λ h. cc) (λ e. ((cc), (cc))) (Decides-and _ _ (texts_equal s t) (texts_equal u v))
returns c (InvalidArgument s u) (InvalidArgument t v) = Decides-like _ (λ h. cc) (λ e. ((cc), (cc))) (Decides-and _ _ (texts_equal s t) (texts_equal u v))
returns c (OutOfRangeArgument s u) (OutOfRangeArgument t v) = Decides-like _ (λ h. cc) (λ e. ((cc), (cc))) (Decides-and _ _ (texts_equal s t) (texts_equal u v))
returns c (Io s) (Io t) = ((λ h. ap writing_failed (same_true the_type (search rules) s t h)), (λ e. true_same the_type s t (cc)))
returns c Utf8Conversion Utf8Conversion = ((λ h. refl), (λ e. refl))
returns c OutOfMemory OutOfMemory = ((λ h. refl), (λ e. refl))
returns c a b = ((λ h. absurd (false≢true h)), (λ e. absurd (eqb_apart (place_of (refusal_of a)) (place_of (refusal_of b)) refl (ap place_of e))))
