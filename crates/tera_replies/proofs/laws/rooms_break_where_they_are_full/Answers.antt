-- What is sent to a room is taken by it, together.
use Rattle.std.proofs.Common.{◌≡◌, ℕ, inl, inr, List, [], ◌∷◌, length, length-append, sym, ap, subst, arith}
use Rattle.std.specs.List.{FoldsTo, flat_map}
use Rattle.tera_report.specs.{Sink.Use, Sink.put, Sink.flush, Sink.bytes_put, Sink.Uses, Sink.Sends, inner.SinkLaws.room_nothing, inner.SinkLaws.room_joined}
use Rattle.tera_report.specs.{Room.RoomTakes, Room.RoomFails, Room.HasRoomFor, declared.room.Room.Room}
use Rattle.tera_replies.specs.Output.{BrokeOn}
use Rattle.tera_replies.proofs.laws.rooms_break_where_they_are_full.Goals as goal

turns_taken : (s : Room) (uses : List Use) (t : Room) → FoldsTo (Uses RoomTakes (λ (a b : Room). b ≡ a)) s uses t → RoomTakes s (flat_map bytes_put uses) t
turns_taken s [] t p = subst (RoomTakes s []) p (room_nothing s)
turns_taken s (put a ∷ uses) t (mid, p, later) = room_joined s a mid (flat_map bytes_put uses) t p (turns_taken mid uses t later)
turns_taken s (flush ∷ uses) t (mid, p, later) = subst (λ (m : Room). RoomTakes m (flat_map bytes_put uses) t) p (turns_taken mid uses t later)

sent_taken : (s : Room) (bytes : List ℕ) (t : Room) → Sends RoomTakes (λ (a b : Room). b ≡ a) s bytes t → RoomTakes s bytes t
sent_taken s bytes t p = subst (λ (b : List ℕ). RoomTakes s b t) p.whole (turns_taken s p.uses t p.turns)

was_full : (s : Room) (bytes : List ℕ) (t : Room) → BrokeOn RoomTakes RoomFails (λ (a b : Room). b ≡ a) (λ (a b : Room). ⊥) s bytes t
    → HasRoomFor s (length bytes) → ⊥
was_full s bytes t h fits = elim h.fault [
  | inl (rest, is, failed) ↦
      let took = sent_taken s h.front h.sent h.sends in
      omega (arith, took.size, took.counted, failed.full, ap length is, length-append h.front rest, fits)
  | inr (is, failed) ↦ absurd failed
]

pub returns : goal.returns
returns c = record {
  takes = λ old bytes new (sent, p, q). subst (RoomTakes old bytes) (sym q) (sent_taken old bytes sent p);
  breaks = was_full;
}
