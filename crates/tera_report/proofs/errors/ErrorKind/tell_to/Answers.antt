-- The pieces of each kind, joined, are its text.
use Rattle.std.proofs.Common.{◌++◌, ap, codes}
use Rattle.tera_report.specs.Errors.{refusal_of}
use Rattle.tera_report.specs.Refusal.{Tells}
use Rattle.tera_report.proofs.PutLaws.{puts_these}
use Rattle.tera_report.proofs.errors.ErrorKind.tell_to.Goals as goal

pub returns-in-CircularExtend : goal.returns-in-CircularExtend
returns-in-CircularExtend g c =
    rw (c.in-CircularExtend.is) (rw (c.as_str-in-CircularExtend.ensures.value, c.as_slice.ensures.value) at c.put_extend.ensures)

pub returns-in-CircularInclude : goal.returns-in-CircularInclude
returns-in-CircularInclude g c =
    rw (c.in-CircularInclude.is) (rw (c.as_str-in-CircularInclude.ensures.value, c.as_slice-in-CircularInclude.ensures.value) at c.put_include.ensures)

pub returns-in-TemplateNotFound : goal.returns-in-TemplateNotFound
returns-in-TemplateNotFound g c =
    let told : Tells (refusal_of c.args.self.now) (codes "Template '" ++ (c.as_str-in-TemplateNotFound.result.now ++ codes "' not found")) =
    rw (c.in-TemplateNotFound.is) (ap (λ n. codes "Template '" ++ (n ++ codes "' not found")) c.as_str-in-TemplateNotFound.ensures.value) in
    puts_these g.S.Sink.takes g.S.Sink.fails (Tells (refusal_of c.args.self.now)) _ _ _ _ told c.put_all.ensures

pub returns-in-ComponentNotFound : goal.returns-in-ComponentNotFound
returns-in-ComponentNotFound g c =
    let told : Tells (refusal_of c.args.self.now) (codes "Component '" ++ (c.as_str-in-ComponentNotFound.result.now ++ codes "' not found")) =
    rw (c.in-ComponentNotFound.is) (ap (λ n. codes "Component '" ++ (n ++ codes "' not found")) c.as_str-in-ComponentNotFound.ensures.value) in
    puts_these g.S.Sink.takes g.S.Sink.fails (Tells (refusal_of c.args.self.now)) _ _ _ _ told c.put_all-in-ComponentNotFound.ensures
