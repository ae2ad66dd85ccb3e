-- The lines of the script, the run of what they say, and what follows for a replay of it.
use Rattle.tera_script.specs.Saved.{owned_state}
use Rattle.tera_replies.proofs.SavedLemmas.{replayed_alone, same_state, script_answered, script_taken, taken_alone}
use Rattle.tera_replies.proofs.script_laws.scripts_are_replayed.Goals as goal

pub returns : goal.returns
returns c =
    let lines = c.script_lines_are_said.ensures in
    let run = c.scripts_make_their_states.ensures.run in
    let one = c.one_command.ensures in
    let silent = c.skipped_says_nothing.ensures in
    let leaves = c.runs_give_their_outcomes.ensures.state in
    let same = c.runs_have_outcomes.ensures.one in
    let zero_is = c.want_of_memory_alone_makes_status_one.ensures.every in record {
      taken = λ ascii state made have.
          script_taken one silent leaves same zero_is ascii state (lines.control ascii state made have) (lines.said ascii state made have) (run state);
      alone = λ ascii state text place made have.
          taken_alone one silent leaves same zero_is ascii state (lines.control ascii state made have) (lines.said ascii state made have) (run state)
          text place;
      forms = c.scripts_make_their_states.ensures.forms;
      meaning = λ state. c.states_that_are_laid_out_the_same_stay_so.ensures.meaning (owned_state state) state
          (same_state (owned_state state) state (c.scripts_make_their_states.ensures.forms state));
      answered = λ ascii state made have.
          script_answered one silent leaves same zero_is ascii state (lines.control ascii state made have) (lines.said ascii state made have) (run state);
      status = λ ascii state fails out err status made have.
          replayed_alone one silent leaves same zero_is ascii state (lines.control ascii state made have) (lines.said ascii state made have) (run state)
          fails out err status;
    }
