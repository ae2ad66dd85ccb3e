-- A replay that finds no memory before it reads.
use Rattle.std.proofs.Common.{◌≡◌, ◌≢◌, ℕ, Bool, inl, inr, List, [], Option, None, Some, Result, Ok, Err, IfSome, MatchResult, codes, refl, subst, arith}
use Rattle.std.specs.FinMap.{empty}
use Rattle.std.specs.Io.KnownBytes.{Consumes}
use Rattle.std.proofs.lemmas.List.Elements.{All-nil}
use Rattle.std.specs.declared.io.Error.{Error}
use Rattle.tera_report.specs.declared.watch.Watched.{Watched}
use Rattle.tera_report.specs.Watch.{WatchedTakes, WatchedFails, watched_writer}
use Rattle.tera_replies.specs.Output.{TakesOrFails, WriterTakesOrFails}
use Rattle.tera_replies.proofs.ReplayLaws.{told_writer}
use Rattle.tera_replies.specs.Replay.{Replays, ReplaysGiven}
use Rattle.tera_replies.specs.Source.{ReadsTo}
use Rattle.tera_replies.specs.Streams.{Input, Streams, reads}
use Rattle.tera_replies.specs.declared.source.Source.{Ghosts}
use Rattle.tera_replies.specs.Script.{HasNoLineFeed, Splits, line_feed}

no_lines : Splits [] [] []
no_lines = record { whole = refl; each = All-nil HasNoLineFeed; rest = All-nil (λ byte. byte ≢ line_feed) }

-- the first of no lines are answered, and this is told
none_answered : (bytes : List ℕ) (fails : Option Bool) (input : Input) (streams : Streams) → input.gave [] [] → streams.out_gets []
    → streams.err_gets (codes "error: Out of memory\n") → Replays bytes fails input streams 1
none_answered bytes fails input streams gave none told = inl (
  [],
  codes "error: Out of memory\n",
  inr (inr (record {
    before = [];
    last = [];
    rest = bytes;
    lines = [];
    part = [];
    first = [];
    later = [];
    outcomes = [];
    front = refl;
    read = inl gave;
    split = no_lines;
    lines_are = refl;
    prompt = ([], [], no_lines, omega arith);
    answers = record { commands = []; state = empty; script = (refl, refl); run = refl };
    replied = ([], tt, refl);
    err_is = refl;
    status_is = refl;
  })),
  none,
  told,
)

pub nothing_read : (first : Option (List ℕ)) (fails : Option Bool) (input : Input) (streams : Streams) → input.gave [] [] → streams.out_gets []
    → streams.err_gets (codes "error: Out of memory\n") → IfSome first (λ bytes. Replays bytes fails input streams 1)
nothing_read None fails input streams gave none told = tt
nothing_read (Some bytes) fails input streams gave none told = none_answered bytes fails input streams gave none told

-- what is left stays
left_stays : (left : Option (List ℕ)) → Consumes left left []
left_stays None = tt
left_stays (Some bytes) = refl

pub nothing_given : {S : Type 0} (source : Ghosts S) (old : S) (streams : Streams) → streams.out_gets []
    → streams.err_gets (codes "error: Out of memory\n") → ReplaysGiven source old old streams 1
nothing_given source old streams none told =
    let gave : ReadsTo source.gave old [] [] old = inl (refl, refl, refl) in (
      [],
      left_stays (source.left old),
      inl ([], [], refl, gave),
      none_answered [] (source.fails old) (reads source.gave old old) streams gave none told,
    )

-- a watched writer took the text, or failed on it
pub took_or_failed : {W : Type 0} (contents : W → Option (List ℕ)) (wrote : W → List ℕ → Result ℕ Error → W → Type 0) (put : Result (Unit {0}) Error)
    (old : Watched W) (text : List ℕ) (new : Watched W)
    → MatchResult put (λ _. WatchedTakes contents wrote old text new) (λ _. WatchedFails contents wrote old text new)
    → TakesOrFails (WatchedTakes contents wrote) (WatchedFails contents wrote) old text new
took_or_failed contents wrote (Ok done) old text new h = inl h
took_or_failed contents wrote (Err fault) old text new h = inr h

-- what a watched writer took, or failed on, its writer did
pub writer_told : {W : Type 0} (contents : W → Option (List ℕ)) (wrote : W → List ℕ → Result ℕ Error → W → Type 0)
    (flushed : W → Result (Unit {0}) Error → W → Type 0) (s : Watched W) (text : List ℕ) (t : Watched W) (old new : W)
    → watched_writer s ≡ old → watched_writer t ≡ new → TakesOrFails (WatchedTakes contents wrote) (WatchedFails contents wrote) s text t
    → WriterTakesOrFails contents wrote old text new
writer_told contents wrote flushed s text t old new first last put =
    subst (λ v. WriterTakesOrFails contents wrote v text new) first
    (subst (λ w. WriterTakesOrFails contents wrote (watched_writer s) text w) last (told_writer contents wrote flushed s text t put))
