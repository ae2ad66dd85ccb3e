use Rattle.std.proofs.Common.{◌≡◌, ◌^◌, ◌<◌, ◌≤◌, drop}
use Rattle.tera_script.specs.TextParts.{escape_at, at_digit}
use Rattle.tera_script.proofs.escape.take_number.Given as goal

-- what is read from the digits on is read behind those so far
abbrev pub invariant-loop-place : goal.invariant-loop-place
invariant-loop-place l = record {
  read : escape_at (drop l.place l.digits) (at_digit l.number l.place) ≡ escape_at l.digits (at_digit 0 0);
  few : l.place ≤ 6;
  small : l.number < 16 ^ l.place;
}
