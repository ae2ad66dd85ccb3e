-- A fault that is want of memory, or another.
use Rattle.std.proofs.Common.{◌≡◌, Bool, true, false, refl, subst, sym}
use Rattle.tera_render.specs.declared.fault.Fault.{Fault}
use Rattle.tera_render.specs.declared.fault.Fault.TheVariants.{NoMemory}

pub either_fault : (P : Fault → Type 0) (want : Bool) (fault other : Fault) → (want ≡ true → fault ≡ NoMemory) → (want ≡ false → fault ≡ other)
    → P NoMemory → P other → P fault
either_fault P true fault other first second p q = subst P (sym (first refl)) p
either_fault P false fault other first second p q = subst P (sym (second refl)) q
