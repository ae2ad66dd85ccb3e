use Rattle.std.proofs.Common.{◌≡◌, None, Ok, Result, sym, subst}
use Rattle.std.proofs.lemmas.Result.{IfOk-weaker, IfErr-weaker}
use Rattle.tera.specs.Errors.{Refuses}
use Rattle.tera.specs.Form.{Form}
use Rattle.tera.specs.Refusal.{Refusal}
use Rattle.tera.specs.Slice.{sliced}
use Rattle.tera.specs.SliceRule.{IsSliced}
use Rattle.tera_filters.proofs.arrays.cut.Goals as goal

pub returns-clause-ok : goal.returns-clause-ok
returns-clause-ok c =
    IfOk-weaker c.slice.result (λ v. IsSliced c.args.value.now c.args.start c.args.end None (Ok v))
    (λ v. sliced c.args.value.now c.args.start c.args.end None ≡ Ok v)
    (λ v is. sym (c.slices_have_one_answer.ensures.only c.args.value.now c.args.start c.args.end None (Ok v) is)) c.slice.ensures.ok

pub returns-clause-err : goal.returns-clause-err
returns-clause-err c =
    IfErr-weaker c.slice.result
    (λ e. (outcome : Result Form Refusal) × IsSliced c.args.value.now c.args.start c.args.end None outcome × Refuses outcome e)
    (Refuses (sliced c.args.value.now c.args.start c.args.end None))
    (λ e is. subst (λ outcome. Refuses outcome e)
    (c.slices_have_one_answer.ensures.only c.args.value.now c.args.start c.args.end None is.0 is.1) is.2) c.slice.ensures.err

pub returns-clause-empty : goal.returns-clause-empty
returns-clause-empty c made is empty =
    c.slice.ensures.empty made
    (subst (λ outcome. IsSliced c.args.value.now c.args.start c.args.end None outcome) is
    (c.slices_have_one_answer.ensures.answered c.args.value.now c.args.start c.args.end None)) empty
