use Rattle.std.proofs.Common.{◌≡◌, ◌≤◌, All, length}
use Rattle.std.specs.Vec.{vec_capacity}
use Rattle.kc_report.specs.declared.row_pieces.PieceText.{PieceText}
use Rattle.kc_report.proofs.row_pieces.room_for_texts.Given as goal

abbrev pub invariant-loop : goal.invariant-loop
invariant-loop l = record {
  made : length l.texts.items ≡ l.counter;
  room : vec_capacity l.texts ≡ l.count;
  bounded : All (λ (text : PieceText). vec_capacity text.bytes ≤ 442_368) l.texts.items;
}
