use Rattle.std.proofs.lemmas.Result.{IfOk-weaker}
use Rattle.tera_script.proofs.Bare.{quote_opens, safe_opens, hex_opens}
use Rattle.tera_script.proofs.Fronts.{no_prefix, behind_prefix}
use Rattle.tera_script.proofs.Literals.{literal_found, plain_found}
use Rattle.tera_script.proofs.literal.take_flat.Goals as goal

pub returns-in-Some-clause-literal : goal.returns-in-Some-clause-literal
returns-in-Some-clause-literal c =
    let opens = behind_prefix c.args.bytes.now c.strip_prefix.ensures.cases c.as_slice.ensures c.in-Some.is in
    IfOk-weaker c.take_quoted.result _ _ (λ answer h levels no_array no_map. literal_found levels c.args.bytes.now _ (rw opens h)) c.take_quoted.ensures

pub returns-in-Some-strip_prefix-clause-literal : goal.returns-in-Some-strip_prefix-clause-literal
returns-in-Some-strip_prefix-clause-literal c =
    let opens = behind_prefix c.args.bytes.now c.strip_prefix-in_default.ensures.cases c.as_slice-in_default.ensures c.in-Some-strip_prefix.is in
    IfOk-weaker c.take_quoted-in-Some-strip_prefix.result _ _ (λ answer h levels no_array no_map. literal_found levels c.args.bytes.now _ (rw opens h))
    c.take_quoted-in-Some-strip_prefix.ensures

pub returns-in-Some-strip_prefix-2-clause-literal : goal.returns-in-Some-strip_prefix-2-clause-literal
returns-in-Some-strip_prefix-2-clause-literal c =
    let opens = behind_prefix c.args.bytes.now c.strip_prefix-in_default-strip_prefix.ensures.cases c.as_slice-in_default-strip_prefix.ensures
    c.in-Some-strip_prefix-2.is in
    IfOk-weaker c.take_bytes.result _ _ (λ answer h levels no_array no_map. literal_found levels c.args.bytes.now _ (rw opens h)) c.take_bytes.ensures

pub returns-in_default-strip_prefix-2-clause-literal : goal.returns-in_default-strip_prefix-2-clause-literal
returns-in_default-strip_prefix-2-clause-literal c levels no_array no_map = plain_found levels c.args.bytes.now _
    (no_prefix c.args.bytes.now c.strip_prefix.ensures.cases c.as_slice.ensures c.in_default.is)
    (no_prefix c.args.bytes.now c.strip_prefix-in_default.ensures.cases c.as_slice-in_default.ensures c.in_default-strip_prefix.is)
    (no_prefix c.args.bytes.now c.strip_prefix-in_default-strip_prefix.ensures.cases c.as_slice-in_default-strip_prefix.ensures c.in_default-strip_prefix-2.is)
    no_array no_map c.take_plain.ensures

pub returns-in-Some-clause-free : goal.returns-in-Some-clause-free
returns-in-Some-clause-free c = λ h. absurd
    (quote_opens (behind_prefix c.args.bytes.now c.strip_prefix.ensures.cases c.as_slice.ensures c.in-Some.is) h)

pub returns-in-Some-strip_prefix-clause-free : goal.returns-in-Some-strip_prefix-clause-free
returns-in-Some-strip_prefix-clause-free c = λ h. absurd
    (safe_opens (behind_prefix c.args.bytes.now c.strip_prefix-in_default.ensures.cases c.as_slice-in_default.ensures c.in-Some-strip_prefix.is) h)

pub returns-in-Some-strip_prefix-2-clause-free : goal.returns-in-Some-strip_prefix-2-clause-free
returns-in-Some-strip_prefix-2-clause-free c = λ h.
    let opens = behind_prefix c.args.bytes.now c.strip_prefix-in_default-strip_prefix.ensures.cases c.as_slice-in_default-strip_prefix.ensures
    c.in-Some-strip_prefix-2.is in
    absurd (hex_opens opens h)
