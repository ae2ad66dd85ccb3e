-- The line that answers a call.
use Rattle.std.specs.Prelude.{◌≡◌, ℕ, ℤ, true, false, List, ◌++◌, codes, decimal, Option, None}
use Rattle.std.specs.Prelude.{IsSome, Ok, Err, IsTrue, Some, ⊤}
use Rattle.std.specs.Fmt.{debug_list, debug_str}
use Rattle.std.specs.List.{AllZip, flat_map}
use Rattle.std.specs.Str.Lossy.{utf8_lossy}
use Rattle.std.specs.declared.cmp.Ordering.{Ordering}
use Rattle.std.specs.declared.cmp.Ordering.TheVariants.{Less, Equal, Greater}
use Rattle.tera_report.specs.Quoted.{QuotesList}
use Rattle.tera_report.specs.Refusal.{Tells, text_of}
use Rattle.tera_meaning.specs.Answer
use Rattle.tera_meaning.specs.Form.{Form}
use Rattle.tera_meaning.specs.KeyMeaning.{KeyMeaning}
use Rattle.tera_meaning.specs.Kind.{kind_name}
use Rattle.tera_meaning.specs.Meaning.{Layout, layout}
use Rattle.tera_meaning.specs.Outcome.{Outcome}
use Rattle.tera_meaning.specs.Printed.{is_exact_inside}
use Rattle.tera_meaning.specs.Quoted.{PrintsInside}
use Rattle.tera_meaning.specs.Tree.{undefined, none, truth, number, text, bytes, array, object}
use Rattle.tera_meaning.specs.Tree.{Items, Members, no_items, item, no_members, member}
use Rattle.tera_context.specs.Lent.{LentForm, StandsFor}
use Rattle.tera_replies.specs.Script.{HasNoLineFeed, ended}

abbrev pub order_name : Option Ordering → List ℕ
order_name None = codes "undecided"
order_name (Some Less) = codes "less"
order_name (Some Equal) = codes "equal"
order_name (Some Greater) = codes "greater"

-- how a value that is found is written: undefined and none by their names, and else as it prints
-- inside an array, where a text is quoted. That is one text alone where what is quoted is ASCII
abbrev pub IsFormOf : Form → List ℕ → Type 0
IsFormOf undefined form = form ≡ codes "undefined"
IsFormOf none form = form ≡ codes "none"
IsFormOf (truth b) form = PrintsInside (layout (truth b)) form
IsFormOf (number n) form = PrintsInside (layout (number n)) form
IsFormOf (text t) form = PrintsInside (layout (text t)) form
IsFormOf (bytes bs) form = PrintsInside (layout (bytes bs)) form
IsFormOf (array xs) form = PrintsInside (layout (array xs)) form
IsFormOf (object ps) form = PrintsInside (layout (object ps)) form

-- some texts are listed in debug form, behind a word
abbrev pub IsListed : List ℕ → List (List ℕ) → List ℕ → Type 0
IsListed word texts line = (listed : List ℕ) × QuotesList texts listed × (line ≡ word ++ listed)

-- the reply to a call, without its line feed. A text stands there as it is, line feeds and all
abbrev pub IsReply : Outcome → List ℕ → Type 0
IsReply (Ok Answer.done) line = line ≡ codes "ok"
IsReply (Ok (Answer.truth true)) line = line ≡ codes "true"
IsReply (Ok (Answer.truth false)) line = line ≡ codes "false"
IsReply (Ok (Answer.order order)) line = line ≡ order_name order
IsReply (Ok (Answer.found None)) line = line ≡ codes "nothing"
IsReply (Ok (Answer.found (Some value))) line =
    (form : List ℕ) × IsFormOf value form × (line ≡ codes "value " ++ form)
IsReply (Ok (Answer.size None)) line = line ≡ codes "nothing"
IsReply (Ok (Answer.size (Some n))) line = line ≡ codes "size " ++ decimal n
IsReply (Ok (Answer.kind kind)) line = line ≡ codes "kind " ++ kind_name kind
IsReply (Ok (Answer.text printed)) line = line ≡ codes "text " ++ printed
IsReply (Ok (Answer.texts texts)) line = IsListed (codes "fields ") texts line
IsReply (Ok (Answer.walked texts)) line = IsListed (codes "walk ") texts line
IsReply (Err refusal) line =
    (words : List ℕ) × Tells refusal words × (line ≡ codes "error: " ++ words)

-- the reply to a call, with its line feed
abbrev pub IsReplyLine : Outcome → List ℕ → Type 0
IsReplyLine outcome written =
    (line : List ℕ) × IsReply outcome line × (written ≡ ended line)

-- the reply, with its line feed, to a call for which a context lends what stands for an outcome
abbrev pub IsLentLine : LentForm → List ℕ → Type 0
IsLentLine lent written =
    (outcome : Outcome) × StandsFor lent outcome × IsReplyLine outcome written

abbrev pub IsListedLine : List ℕ → List (List ℕ) → List ℕ → Type 0
IsListedLine word texts written =
    (line : List ℕ) × IsListed word texts line × (written ≡ ended line)

-- the reply is one text alone: but where a value that is found, or a list of texts, quotes a text
-- past ASCII, and where the text of a refusal is not known
abbrev pub IsFixedReply : Outcome → Type 0
IsFixedReply (Ok Answer.done) = ⊤
IsFixedReply (Ok (Answer.truth b)) = ⊤
IsFixedReply (Ok (Answer.order order)) = ⊤
IsFixedReply (Ok (Answer.found None)) = ⊤
IsFixedReply (Ok (Answer.found (Some value))) = IsTrue (is_exact_inside (layout value))
IsFixedReply (Ok (Answer.size n)) = ⊤
IsFixedReply (Ok (Answer.kind kind)) = ⊤
IsFixedReply (Ok (Answer.text printed)) = ⊤
IsFixedReply (Ok (Answer.texts texts)) = IsSome (debug_list debug_str texts)
IsFixedReply (Ok (Answer.walked texts)) = IsSome (debug_list debug_str texts)
IsFixedReply (Err refusal) = IsSome (text_of refusal)

-- what is printed of the bytes that a value holds has no line feed
abbrev mutual
  pub BytesAreOneLine : Layout → Type 0
  BytesAreOneLine undefined = ⊤
  BytesAreOneLine none = ⊤
  BytesAreOneLine (truth b) = ⊤
  BytesAreOneLine (number z) = ⊤
  BytesAreOneLine (text t) = ⊤
  BytesAreOneLine (bytes bs) = HasNoLineFeed (utf8_lossy bs)
  BytesAreOneLine (array xs) = ItemsAreOneLine xs
  BytesAreOneLine (object ps) = MembersAreOneLine ps

  pub ItemsAreOneLine : Items ℤ (List ℕ) KeyMeaning → Type 0
  ItemsAreOneLine no_items = ⊤
  ItemsAreOneLine (item x xs) = BytesAreOneLine x × ItemsAreOneLine xs

  pub MembersAreOneLine : Members ℤ (List ℕ) KeyMeaning → Type 0
  MembersAreOneLine no_members = ⊤
  MembersAreOneLine (member k x ps) = BytesAreOneLine x × MembersAreOneLine ps

-- what stands in the reply as it is has no line feed: the bytes of a value that is found, a text
-- that is printed or escaped, and the words of a refusal. All else is quoted, or has none
abbrev pub IsUnbroken : Outcome → Type 0
IsUnbroken (Ok Answer.done) = ⊤
IsUnbroken (Ok (Answer.truth b)) = ⊤
IsUnbroken (Ok (Answer.order order)) = ⊤
IsUnbroken (Ok (Answer.found None)) = ⊤
IsUnbroken (Ok (Answer.found (Some value))) = BytesAreOneLine (layout value)
IsUnbroken (Ok (Answer.size n)) = ⊤
IsUnbroken (Ok (Answer.kind kind)) = ⊤
IsUnbroken (Ok (Answer.text printed)) = HasNoLineFeed printed
IsUnbroken (Ok (Answer.texts texts)) = ⊤
IsUnbroken (Ok (Answer.walked texts)) = ⊤
IsUnbroken (Err refusal) = (words : List ℕ) → Tells refusal words → HasNoLineFeed words

-- one reply with its line feed for each, in order, and nothing else
abbrev pub AreReplies : List Outcome → List ℕ → Type 0
AreReplies outcomes written =
    (lines : List (List ℕ)) × AllZip IsReply outcomes lines × (written ≡ flat_map ended lines)
