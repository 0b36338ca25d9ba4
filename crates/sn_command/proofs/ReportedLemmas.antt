-- A line printed piece by piece, over plain values.
use Rattle.std.proofs.Common.{◌≡◌, ◌⊎◌, ℕ, ◌+◌, ◌≤◌, List, [], ◌∷◌, ◌++◌, Bool, true, false, length, drop, get_or, ◌<◌, subst, add-one, inl, inr, refl, ap, sym, ◌∙◌, arith}
use Rattle.std.proofs.lemmas.Bool.{false≢true}
use Rattle.std.specs.Prelude.{codes}
use Rattle.std.specs.Io.KnownBytes.{append_known}
use Rattle.sn_base.proofs.Lists.{by_test}
use Rattle.sn_command.specs.Worlds.{Sunk}
use Rattle.sn_command.specs.Reported.{Tells, piece_text, pieces_text}
use Rattle.sn_command.specs.declared.pieces.Piece.{Piece}
use Rattle.std.proofs.Math.Seq.{drop-cons}
use Rattle.std.proofs.lemmas.List.{drop_all}
use Rattle.sn_command.specs.Ends.{IsReported}
use Rattle.sn_command.specs.Lines.{line_of}
use Rattle.sn_command.specs.declared.refusal.Refusal.{Refusal}
use Rattle.sn_command.specs.declared.refusal.Refusal.TheVariants.{Missing, ReadFault}
use Rattle.sn_command.proofs.OutcomeLemmas.{reported_none, front_longer, front_after, all_front}
use Rattle.sn_io.proofs.Reported.{append_known-append as reported_twice}
use Rattle.sn_io.proofs.CountLemmas.{rose_earlier}

-- What is left of a line leads to the whole line.
abbrev pub TellsOn : List ℕ → List ℕ → Sunk → Sunk → Type 0
TellsOn rest whole before now = (all : Bool) (later : Sunk) → Tells rest all now later → Tells whole all before later

pub reported_begin : (whole : List ℕ) (now : Sunk) → TellsOn whole whole now now
reported_begin whole now = λ all later k. k

module _ (first rest whole : List ℕ) (before now after : Sunk) (on : TellsOn (first ++ rest) whole before now) where
  -- after a piece that failed nothing more is printed
  pub reported_stops : Tells first false now after → Tells whole false before after
  reported_stops k = on false after (record { front = front_longer first rest now.written after.written k.front; whole = λ e. absurd (false≢true e); rose = k.rose; faults = k.faults; takes = k.takes })

  -- one piece more
  pub reported_turn : Tells first true now after → TellsOn rest whole before after
  reported_turn k = λ all later r. on all later (record {
    front = front_after first rest now.written after.written later.written (k.whole refl) r.front;
    whole = λ e. r.whole e ∙ ap (λ t. append_known t rest) (k.whole refl) ∙ reported_twice now.written first rest;
    rose = λ e. elim (r.rose e) [ inl rose ↦ inl (rose_earlier now.faults after.faults later.faults k.faults rose) | inr rose ↦ inr (rose_earlier now.empty_takes after.empty_takes later.empty_takes k.takes rose) ];
    faults = let x = k.faults in let y = r.faults in omega arith;
    takes = let x = k.takes in let y = r.takes in omega arith;
  })

-- all of it is printed where no count rose
pub is_reported : (line : List ℕ) (all : Bool) (before now : Sunk) → Tells line all before now → IsReported line before now
is_reported line all before now k = record {
  front = k.front;
  whole = λ no. by_test all (λ is. k.whole is) (λ isnt. absurd (no (k.rose isnt)));
}

-- the text of the pieces from one on
pub pieces_here : (pieces : List Piece) (i : ℕ) (d : Piece) → i < length pieces → pieces_text (drop i pieces) ≡ piece_text (get_or pieces i d) ++ pieces_text (drop (i + 1) pieces)
pieces_here pieces i d within =
    let here : drop i pieces ≡ get_or pieces i d ∷ drop (i + 1) pieces = rw (add-one) (drop-cons pieces i d within) in
    ap pieces_text here

-- no piece is left
pub reported_end : (pieces : List Piece) (i : ℕ) (before now : Sunk) → length pieces ≤ i → TellsOn (pieces_text (drop i pieces)) (pieces_text pieces) before now → Tells (pieces_text pieces) true before now
reported_end pieces i before now over on =
    let none : drop i pieces ≡ [] = drop_all i pieces (omega arith) in
    on true now (subst (λ (rest : List Piece). Tells (pieces_text rest) true now now) (sym none)
    (record { front = all_front [] now.written now.written (reported_none now.written); whole = λ e. reported_none now.written; rose = λ e. absurd (false≢true (sym e)); faults = omega arith; takes = omega arith }))

module _ (first rest : List ℕ) (before now : Sunk) where
  pub tells_stops : Tells first false before now → Tells (first ++ rest) false before now
  tells_stops k = reported_stops first rest (first ++ rest) before before now (reported_begin (first ++ rest) before) k

  pub tells_then : Tells first true before now → (all : Bool) (later : Sunk) → Tells rest all now later → Tells (first ++ rest) all before later
  tells_then k all later r = reported_turn first rest (first ++ rest) before before now (reported_begin (first ++ rest) before) k all later r

-- a read that failed and a word that isn't known have one line
pub tells_read_fault : (refusal : Refusal) (all : Bool) (before now : Sunk) → (refusal ≡ Missing) ⊎ (refusal ≡ ReadFault) → Tells (codes "sonata: read fault\n") all before now → Tells (line_of refusal) all before now
tells_read_fault refusal all before now (inl is) t = rw is t
tells_read_fault refusal all before now (inr is) t = rw is t
