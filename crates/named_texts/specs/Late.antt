-- What is left of a text that is opened when it is first read.
use Rattle.std.specs.Prelude.{ℕ, List, Option, Some, None}
use Rattle.named_texts.specs.declared.late.LateText.{LateText}

-- all that its name has, until it is opened
abbrev pub late_remaining : {T X Y : Type 0} → (T → List ℕ → Option (List ℕ)) → (X → Option (List ℕ)) → LateText T X Y
    → Option (List ℕ)
late_remaining known remaining late = elim late.text [
  | None ↦ known late.texts.now late.name.now
  | Some text ↦ remaining text
]
