-- A text in a room of fixed size, and what a call that puts bytes there does.
use Rattle.std.specs.Prelude.{◌≡◌, ℕ, ◌+◌, ◌≤◌, ◌<◌, List, ◌++◌, ◌↔◌, Result, IsOk, OnOk, OnErr}
use Rattle.std.specs.Prelude.{length, string_bytes, string_len}
use Rattle.tera_report.specs.declared.room.Room.{Room}

-- the bytes that it holds
abbrev pub room_bytes : Room → List ℕ
room_bytes r = string_bytes r.text

-- how many bytes it holds
abbrev pub room_len : Room → ℕ
room_len r = string_len r.text

-- how many bytes it has room for in all
abbrev pub room_size : Room → ℕ
room_size r = r.size

-- so many more bytes fit
abbrev pub HasRoomFor : Room → ℕ → Type 0
HasRoomFor r more = room_len r + more ≤ room_size r

-- the room took the bytes, which fit
pub record RoomTakes (old : Room) (bytes : List ℕ) (new : Room) : Type 0 where
  pub size : room_size new ≡ room_size old
  pub fits : HasRoomFor old (length bytes)
  pub counted : room_len new ≡ room_len old + length bytes
  pub grows : room_bytes new ≡ room_bytes old ++ bytes

-- the bytes did not fit, and the room took a beginning of them
pub record RoomFails (old : Room) (bytes : List ℕ) (new : Room) : Type 0 where
  pub size : room_size new ≡ room_size old
  pub full : room_size old < room_len old + length bytes
  pub taken : List ℕ
  pub rest : List ℕ
  pub part : taken ++ rest ≡ bytes
  pub grows : room_bytes new ≡ room_bytes old ++ taken

-- the bytes are put in where they fit, and the call fails where they do not
pub record IsDecided {E : Type 0} (result : Result (Unit {0}) E) (old : Room) (bytes : List ℕ)
    (new : Room) : Type 0 where
  pub decided : IsOk result ↔ HasRoomFor old (length bytes)
  pub takes : OnOk result (RoomTakes old bytes new)
  pub fails : OnErr result (RoomFails old bytes new)
