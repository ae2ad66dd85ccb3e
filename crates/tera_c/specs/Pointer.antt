-- What a session owns behind its pointer.
use Rattle.std.specs.Prelude.{Option, None, Some}
use Rattle.std.specs.Global.{Global}
use base.Fml.{Fml, feq}
use denote.RawPtr.{Ptr, null_ptr}
use Rattle.std.specs.Coded.{Coded, coded_option}
use Rattle.std_alloc.specs.Box.Ownership.{box_owns}
use Rattle.std_heap.specs.contracts.GlobalAllocator.TheImpl.{ghosts}
use Rattle.tera_c.specs.declared.session_state.SessionState.{SessionState}
use Rattle.tera_c.specs.contracts.session_state.SessionState.{the_row}

-- the heap's handle, which is one value
abbrev pub heap : Global
heap = record { memory = record { seal = tt } }

-- nothing where it is closed, and then the pointer is null; and else the block of the heap at the
-- pointer, with what it holds
abbrev pub pointer_owns : Ptr → Option SessionState → Fml
pointer_owns p None = feq Ptr p null_ptr
pointer_owns p (Some inner) = box_owns (ghosts.dealloc_token heap) the_row p inner

-- how the logic stores what a session holds
abbrev pub state_coded : Coded (Option SessionState)
state_coded = coded_option the_row.coded
