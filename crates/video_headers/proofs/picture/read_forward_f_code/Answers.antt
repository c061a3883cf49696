use Rattle.video_headers.proofs.picture.read_forward_f_code.Goals as goal

pub returns : goal.returns
returns g c = rw (← c.has_forward.ensures) c.read_optional_f_code.ensures
