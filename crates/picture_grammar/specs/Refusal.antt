-- Why bits are refused.

-- the kinds of refusal: each element names its own, and End stands for bits that end within an element
pub data Refusal : Type 0 where
  NoCode TooMany BadEscape BadType BadAddress BadPattern End Uncovered BadHeader NotMpeg2 Profile LowDelay Size : Refusal
