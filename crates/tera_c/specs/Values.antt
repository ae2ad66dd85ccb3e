-- How values go into a session and come out of it.
use Rattle.std.specs.Prelude.{◌≡◌, ℕ, ◌⊎◌, Bool, true, List, [], ◌∷◌, ◌++◌, codes, ◌==◌}
use Rattle.std.specs.Prelude.{nat_le, cond, IsUtf8, Option, Some, None, Result, Ok, Err}
use Rattle.std.specs.List.{find, flat_map, list_any}
use Rattle.std.specs.FinMap.{contains_key, entries, get, insert, remove}
use Rattle.json.specs.Print.{print}
use Rattle.json.specs.Tree.{json_tokens}
use Rattle.tera_json.specs.Documents.{IsRead, most_levels, read_refusal}
use Rattle.tera_json.specs.Misfits.{Misfit, misfit_text}
use Rattle.tera_json.specs.Written.{document_of, value_misfits}
use Rattle.tera_json.specs.declared.write.Lacking.TheVariants as lacking
use Rattle.tera_meaning.specs.Form.{Form}
use Rattle.tera_meaning.specs.Request.{asking, set}
use Rattle.tera_meaning.specs.Tree.{depth}
use Rattle.tera_report.specs.Refusal.{Refusal, message}
use Rattle.tera_replies.specs.Reply.{IsReplyLine}
use Rattle.tera_replies.specs.Script.{ended, line_feed}
use Rattle.tera_script.specs.Line.{Says, levels}
use Rattle.tera_script.specs.Saved.{HasBadName, HasDeepValue, HaveLines, bad_name, deep_value}
use Rattle.tera_script.specs.Saved.{script_of}
use Rattle.tera_script.specs.Word.{IsName}
use Rattle.tera_script.specs.Written.{literal_of, too_deep}
use Rattle.tera_values.specs.View.{marked}
use Rattle.tera_c.specs.Rooms.{IsDelivered}
use Rattle.tera_c.specs.Status.{bad, closed, done, missing, no_memory, refused}
use Rattle.tera_c.specs.Sessions.{reply_of}
use Rattle.tera_c.specs.declared.session_values.Writing.{Writing}
use Rattle.tera_c.specs.declared.session_values.Writing.TheVariants.{Json, Literal}
use Rattle.tera_c.specs.declared.session_state.SessionState.{SessionState}

-- the line of `set` with this name and this literal
abbrev pub set_line : List ℕ → List ℕ → List ℕ
set_line name literal = codes "set " ++ (name ++ (codes " " ++ literal))

-- the literal spells this value: that line says so
abbrev pub SpellsSet : List ℕ → List ℕ → Form → Type 0
SpellsSet name literal value = Says (set_line name literal) (asking (set name value))

-- the name means the value, and the reply is as it was
abbrev pub IsKept : List ℕ → Form → SessionState → SessionState → ℕ → Type 0
IsKept name value old new status =
    (new.context ≡ insert old.context name value) × (new.reply ≡ old.reply) × (status ≡ done)

-- nothing has changed, and the status is this
abbrev pub Stays : ℕ → SessionState → SessionState → ℕ → Type 0
Stays told old new status = (new ≡ old) × (status ≡ told)

-- a session that was closed is so, and the status says it
abbrev pub IsShut : Option SessionState → ℕ → Type 0
IsShut new status = (new ≡ None) × (status ≡ closed)

-- the reply is that of a call with this refusal, and nothing else has changed
abbrev pub IsRefused : Refusal → SessionState → SessionState → ℕ → Type 0
IsRefused refusal old new status =
    IsReplyLine (Err refusal) (reply_of new) × (new.context ≡ old.context) × (status ≡ refused)

-- where what is given fits, the name is set to the value that this brings; or there is no memory
abbrev pub Sets : Type 0 → (Form → Type 0) → List ℕ → SessionState → SessionState → ℕ → Type 0
Sets Fits Brings name old new status =
    (Fits × ((value : Form) × Brings value × IsKept name value old new status))
    ⊎ (((¬ Fits) × Stays bad old new status)
    ⊎ Stays no_memory old new status)

-- it is set by a literal
abbrev pub SetsLiteral : List ℕ → List ℕ → SessionState → SessionState → ℕ → Type 0
SetsLiteral name literal old new status =
    Sets (IsName name × ((value : Form) × SpellsSet name literal value)) (SpellsSet name literal)
    name old new status

-- it is set to a text, with this flag
abbrev pub SetsText : List ℕ → List ℕ → Bool → SessionState → SessionState → ℕ → Type 0
SetsText name text safe old new status =
    Sets (IsName name × IsUtf8 text) (λ value. value ≡ marked text safe) name old new status

-- it is set by a text of JSON; or that is refused
abbrev pub SetsJson : List ℕ → List ℕ → SessionState → SessionState → ℕ → Type 0
SetsJson name json old new status =
    Sets (IsName name × IsUtf8 json) (IsRead json) name old new status
    ⊎ ((IsName name × IsUtf8 json) × ((refusal : Refusal) × (read_refusal json ≡ Err refusal)
    × IsRefused refusal old new status))

-- whether a name is there
abbrev pub told_of : SessionState → List ℕ → ℕ
told_of inner name = cond (contains_key inner.context name) done missing

abbrev pub Has : List ℕ → SessionState → SessionState → ℕ → Type 0
Has name old new status =
    (IsUtf8 name × Stays (told_of old name) old new status)
    ⊎ ((¬ IsUtf8 name) × Stays bad old new status)

-- it is taken away
abbrev pub Removes : List ℕ → SessionState → SessionState → ℕ → Type 0
Removes name old new status =
    (IsUtf8 name × (new.context ≡ remove old.context name) × (new.reply ≡ old.reply)
    × (status ≡ told_of old name))
    ⊎ ((¬ IsUtf8 name) × Stays bad old new status)

-- the literal of a value, which is ASCII; one that nests too deep has none
abbrev pub literal_in : Form → Result (List ℕ) Refusal
literal_in value =
    cond (nat_le (depth value) levels) (Ok (literal_of true value)) (Err (message too_deep))

-- the JSON of a value in which all has one
abbrev pub json_where : List Misfit → Form → Result (List ℕ) Refusal
json_where [] value = Ok (print (json_tokens (document_of value)))
json_where (m ∷ ms) value = Err (message (misfit_text m))

abbrev pub json_in : Form → Result (List ℕ) Refusal
json_in value = json_where (value_misfits lacking.Refused most_levels value) value

-- nothing is delivered
abbrev pub IsUntouched : List ℕ → List ℕ → ℕ → Type 0
IsUntouched room filled len = (filled ≡ room) × (len ≡ 0)

-- a text is delivered, or what is asked for is refused
abbrev pub Gives : Result (List ℕ) Refusal → SessionState → SessionState → List ℕ → List ℕ → ℕ
    → ℕ → Type 0
Gives (Ok text) old new room filled len status =
    (new ≡ old) × IsDelivered text room filled len status
Gives (Err refusal) old new room filled len status =
    IsRefused refusal old new status × IsUntouched room filled len

-- so it is, or there is no memory
abbrev pub Hands : Result (List ℕ) Refusal → SessionState → SessionState → List ℕ → List ℕ → ℕ
    → ℕ → Type 0
Hands wanted old new room filled len status =
    Gives wanted old new room filled len status
    ⊎ (Stays no_memory old new status × IsUntouched room filled len)

-- of the value that is found a text is wanted
abbrev pub HandsFound : (Form → Result (List ℕ) Refusal) → Option Form → SessionState → SessionState
    → List ℕ → List ℕ → ℕ → ℕ → Type 0
HandsFound text_in (Some value) old new room filled len status =
    Hands (text_in value) old new room filled len status
HandsFound text_in None old new room filled len status =
    Stays missing old new status × IsUntouched room filled len

-- of the value of a name
abbrev pub Gets : (Form → Result (List ℕ) Refusal) → List ℕ → SessionState → SessionState
    → List ℕ → List ℕ → ℕ → ℕ → Type 0
Gets text_in name old new room filled len status =
    (IsUtf8 name × HandsFound text_in (get old.context name) old new room filled len status)
    ⊎ ((¬ IsUtf8 name) × Stays bad old new status × IsUntouched room filled len)

-- a value as it is written
abbrev pub text_in : Writing → Form → Result (List ℕ) Refusal
text_in Literal value = literal_in value
text_in Json value = json_in value

-- whether a line feed stands inside a name
abbrev pub is_broken : List ℕ → Bool
is_broken name = list_any (λ b. b == line_feed) name

-- the names, each with a line feed behind it; or the first that is broken
abbrev pub names_where : Option (List ℕ) → List (List ℕ) → Result (List ℕ) Refusal
names_where None names = Ok (flat_map ended names)
names_where (Some name) names =
    Err (message (codes "A line feed stands inside the name " ++ name))

abbrev pub names_in : List (List ℕ) → Result (List ℕ) Refusal
names_in names = names_where (find is_broken names) names

-- why a session is no script: a name that no script can say, or a value that nests too deep
abbrev pub IsUnsaid : List (List ℕ × Form) → Refusal → Type 0
IsUnsaid entries refusal =
    ((name : List ℕ) × HasBadName entries name × (refusal ≡ message (bad_name name)))
    ⊎ ((name : List ℕ) × HasDeepValue entries name × (refusal ≡ message (deep_value name)))

-- the script that makes the names and their values is delivered; or there is none, or no memory
abbrev pub Saves : SessionState → SessionState → List ℕ → List ℕ → ℕ → ℕ → Type 0
Saves old new room filled len status =
    (HaveLines (entries old.context)
    × Gives (Ok (script_of true (entries old.context))) old new room filled len status)
    ⊎ (((refusal : Refusal) × IsUnsaid (entries old.context) refusal
    × Gives (Err refusal) old new room filled len status)
    ⊎ (Stays no_memory old new status × IsUntouched room filled len))
