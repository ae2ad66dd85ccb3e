-- What is no template, and what has no page.
use Rattle.std.proofs.Common.{inl, inr}
use Rattle.tera_page.specs.View.{tree_of}
use Rattle.tera_render.proofs.Wants.{either_fault}
use Rattle.tera_render.proofs.page.page_of.Goals as goal
use Rattle.tera_render.specs.Faults.{wants}
use Rattle.tera_render.specs.Page.{IsFaultOf}
use Rattle.tera_render.specs.declared.fault.Fault.TheVariants.{NoPage}

pub returns-in-Err-clause-err : goal.returns-in-Err-clause-err
returns-in-Err-clause-err c =
    let error = c.in-Err.error in
    either_fault (IsFaultOf c.args.name.now c.args.text.now c.args.names.now) (wants error) c.no_page.result (NoPage error)
    c.no_page.ensures.want c.no_page.ensures.other tt (inl c.in-Err.ensures.err)

pub returns-clause-err : goal.returns-clause-err
returns-clause-err c =
    let error = c.in-Err-render_named.error in
    either_fault (IsFaultOf c.args.name.now c.args.text.now c.args.names.now) (wants error) c.no_page-in-Err-render_named.result (NoPage error)
    c.no_page-in-Err-render_named.ensures.want c.no_page-in-Err-render_named.ensures.other tt
    (inr (tree_of c.in-Ok.template, c.in-Ok.ensures.ok, c.in-Err-render_named.ensures.err))
