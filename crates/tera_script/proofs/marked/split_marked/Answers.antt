use Rattle.std.proofs.Common.{◌∙◌, ◌≡◌, ◌++◌, Some, IsUtf8, ap, encode_utf8, length, subst, sym}
use Rattle.std.specs.List.{slice_get}
use Rattle.std.specs.Str.{chars}
use Rattle.std.proofs.lemmas.Str.{IsUtf8-drop, IsUtf8-take}
use Rattle.tera_script.specs.Written.{inside}
use Rattle.tera_script.specs.inner.Marked.{greatest}
use Rattle.tera_script.proofs.MarkedParts.{all_inside, cut_inside, len_in_text, may_be_cut, none_so, shorter_cut, whole_cut}
use Rattle.tera_script.proofs.marked.split_marked.Goals as goal

pub split_at-requires : goal.split_at-requires
split_at-requires c =
    let most = c.greatest.ensures in
    let h = len_in_text _ (greatest c.args.ascii) c.plain_len.result _ c.args.text.now c.as_bytes.ensures.value most c.plain_len.ensures in
    may_be_cut c.args.ascii c.args.text.now c.plain_len.result c.utf8.text h

pub returns-in_err-c-clause-plain : goal.returns-in_err-c-clause-plain
returns-in_err-c-clause-plain c =
    let text = c.args.text.now in
    let n = c.plain_len.result in
    let h = len_in_text _ (greatest c.args.ascii) n _ text c.as_bytes.ensures.value c.greatest.ensures c.plain_len.ensures in
    let none = sym (ap length c.chars-chars.ensures.rest) ∙ c.in_err-c.ensures.steps.0.0 in
    let whole = all_inside c.args.ascii text c.split_at.result.1.now n c.utf8.text h c.split_at.ensures.back none in
    none_so c.from_residual.result (text ≡ inside c.args.ascii text) whole

pub returns-clause-cut : goal.returns-clause-cut
returns-clause-cut c =
    let text = c.args.text.now in
    let n = c.plain_len.result in
    let rest = c.split_at.result.1.now in
    let h = len_in_text _ (greatest c.args.ascii) n _ text c.as_bytes.ensures.value c.greatest.ensures c.plain_len.ensures in
    let boundary = may_be_cut c.args.ascii text n c.utf8.text h in
    let front = c.split_at.ensures.front in
    let back = c.split_at.ensures.back in
    let begins = sym c.chars-chars.ensures.rest ∙ c.in_ok-c.ensures.steps.0 ∙ ap (λ l. encode_utf8 c.in_ok-c.c ++ l) (sym c.as_str.ensures) in
    let first = subst (λ l. Some c.in_ok-c.c ≡ slice_get (chars l) 0) c.chars-chars.ensures.rest c.in_ok-c.ensures.steps.2 in
    cut_inside c.args.ascii text c.split_at.result.0.now rest c.as_str.result.now n c.in_ok-c.c
    (subst IsUtf8 (sym front) (IsUtf8-take text n c.utf8.text boundary)) (subst IsUtf8 (sym back) (IsUtf8-drop text n c.utf8.text boundary)) h front
    (whole_cut text _ rest n front back) begins first

pub returns-clause-shorter : goal.returns-clause-shorter
returns-clause-shorter c =
    let text = c.args.text.now in
    let rest = c.split_at.result.1.now in
    let begins = sym c.chars-chars.ensures.rest ∙ c.in_ok-c.ensures.steps.0 ∙ ap (λ l. encode_utf8 c.in_ok-c.c ++ l) (sym c.as_str.ensures) in
    shorter_cut text c.split_at.result.0.now rest c.as_str.result.now c.in_ok-c.c
    (whole_cut text _ rest c.plain_len.result c.split_at.ensures.front c.split_at.ensures.back) begins
