use Rattle.std.proofs.Common.{◌≡◌, ◌↔◌, sym, subst, Bool, IsTrue}
use Rattle.tera_meaning.specs.Meaning.{meaning}
use Rattle.tera_meaning.proofs.OrderLaws.{same_is}
use Rattle.tera_values.proofs.compare.ValuePartialEq.eq.Goals as goal

pub returns-clause-meaning : goal.returns-clause-meaning
returns-clause-meaning c =
    let P = λ (b : Bool). IsTrue b ↔ (meaning c.args.self.now ≡ meaning c.args.other.now) in
    subst P (sym c.equal.ensures) (same_is (meaning c.args.self.now) (meaning c.args.other.now))
