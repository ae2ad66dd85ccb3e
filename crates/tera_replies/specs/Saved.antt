-- A script that was written of a state, as a replay from no names answers it.
use Rattle.std.specs.Prelude.{ℕ, ◌+◌, false, List, [], length, flat_map, codes}
use Rattle.std.specs.FinMap.{entries}
use Rattle.tera_meaning.specs.Form.{Form}
use Rattle.tera_meaning.specs.State.{State}
use Rattle.tera_script.specs.Saved.{owned_state}
use Rattle.tera_replies.specs.Stretch.{Place}

-- one `ok` for each entry
abbrev pub oks : List (List ℕ × Form) → List ℕ
oks entries = flat_map (λ entry. codes "ok\n") entries

-- where the replay stands behind the script: each name has its form again, with keys that own their
-- texts, and no answer was want of memory
abbrev pub made_again : State → Place
made_again state =
    record {
      number = 1 + length (entries state);
      part = [];
      state = owned_state state;
      wanted = false;
    }
