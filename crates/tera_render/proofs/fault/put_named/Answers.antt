-- A name and a line that are put in turn are put as one.
use Rattle.std.proofs.Common.{◌≡◌, ℕ, List, ◌++◌, ap, codes, refl, rules}
use Rattle.std.proofs.lemmas.List.{append_assoc}
use Rattle.tera.proofs.PutBytesLaws.{Leads, leads_last}
use Rattle.tera.proofs.TellLaws.{some_telling}
use Rattle.tera.specs.Errors.{kind_of, refusal_of}
use Rattle.tera.specs.Sink.{OfSome}
use Rattle.tera_render.proofs.fault.put_named.Goals as goal
use Rattle.tera_render.specs.Faults.{IsLine, IsNamedLine}

-- what stands before a line
abbrev before : List ℕ → List ℕ
before name = codes "error: " ++ (name ++ codes ": ")

whole : (name line : List ℕ) → before name ++ line ≡ codes "error: " ++ (name ++ (codes ": " ++ line))
whole name line = ap (λ l. codes "error: " ++ l) (append_assoc name (codes ": ") line)

pub returns-in_err-put_all : goal.returns-in_err-put_all
returns-in_err-put_all g c =
    let name = c.args.name.now in
    let (text, tells) = some_telling (refusal_of (kind_of c.args.error.now)) in
    let line = text ++ codes "\n" in
    let bad : OfSome g.E.Sink.fails (IsNamedLine name c.args.error.now) c.args.err.now c.put_all.new.out =
    (before name ++ line, (line, (text, tells, refl), whole name line), g.met.E.Sink.failed_early _ _ _ line c.in_err-put_all.ensures) in
    search rules

pub returns : goal.returns
returns g c =
    let name = c.args.name.now in
    let e = c.args.error.now in
    let leads : Leads g.E.Sink.takes (IsNamedLine name e) (IsLine e) c.args.err.now c.put_all.new.out = record {
      done = before name;
      leads = λ rest has. (rest, has, whole name rest);
      took = c.in_ok-put_all.ensures;
    } in
    leads_last g.E.Sink.takes g.E.Sink.fails g.met.E.Sink.failed_later g.met.E.Sink.joined c.put_line.new.err c.put_line.result leads c.put_line.ensures
