-- What an export answers, as the header names it.
use Rattle.std.specs.Prelude.{ℕ}

abbrev pub done : ℕ
done = 0

-- an answer is want of memory
abbrev pub wanted : ℕ
wanted = 1

-- the line or the text is bad
abbrev pub bad : ℕ
bad = 2

-- a room is too small
abbrev pub small : ℕ
small = 3

-- no memory was found for the call itself
abbrev pub no_memory : ℕ
no_memory = 4

-- the line was run, and no memory was found for its reply
abbrev pub no_reply : ℕ
no_reply = 5

-- the session is closed
abbrev pub closed : ℕ
closed = 6

-- the session is open already
abbrev pub is_open : ℕ
is_open = 7

-- the session holds no such name
abbrev pub missing : ℕ
missing = 8

-- a value cannot be had so, and the reply says why
abbrev pub refused : ℕ
refused = 9
