-- Why a text is no template, which stands in that text.
use Rattle.std.specs.Prelude.{◌≡◌, ℕ, List, [], Result, Ok, Err, IfErr, refl}
use Rattle.std.specs.Result.{IsErr, IsErrAnd}
use Rattle.std.proofs.Common.{inl, inr, subst, sym}
use Rattle.tera.specs.types.Error.{Error}
use Rattle.tera_page.proofs.Endings.{ends_more}
use Rattle.tera_page.specs.Places.{EndsWith}
use Rattle.tera_page.specs.Reading.{IsFaultOf, IsSyntaxError, Tells}
use Rattle.tera_page.specs.declared.fault.Fault.{Fault}
use Rattle.tera_page.specs.declared.fault.Fault.TheVariants.{Memory, Bad, Deep, Long, Unnamed}

pub ends_whole : (text : List ℕ) → EndsWith text text
ends_whole text = ([], refl)

-- the exit of a `?` answers the fault, or want of memory
pub exit_fault : {X : Type 0} (r : Result X Fault) (P : Fault → Type 0) (fault : Fault) → IsErr r × IsErrAnd r (λ e. e ≡ fault) → P fault → IfErr r P
exit_fault (Ok x) P fault exits is = tt
exit_fault (Err e) P fault exits is = subst P (sym exits.1) is

-- a fault of what a text ends with
pub fault_more : (text rest : List ℕ) (fault : Fault) → EndsWith text rest → IsFaultOf rest fault → IsFaultOf text fault
fault_more text rest Memory ends is = tt
fault_more text rest (Bad at) ends is = ends_more text rest at.now ends is
fault_more text rest (Deep at) ends is = ends_more text rest at.now ends is
fault_more text rest (Long at) ends is = ends_more text rest at.now ends is
fault_more text rest (Unnamed at) ends is = ends_more text rest at.now ends is

-- the error of a fault of the source
pub told_error : (file source : List ℕ) (fault : Fault) (e : Error) → IsFaultOf source fault → Tells fault file source e
    → IsSyntaxError file source e
told_error file source Memory e is told = inl (source, ends_whole source, inl told)
told_error file source (Bad at) e is told = inl (at.now, is, told)
told_error file source (Deep at) e is told = inr (inl (at.now, is, told))
told_error file source (Long at) e is told = inr (inr (inl (at.now, is, told)))
told_error file source (Unnamed at) e is told = inr (inr (inr (at.now, is, told)))
