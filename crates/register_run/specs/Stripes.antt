-- What is known of the stripes of a source.
use Rattle.lane_rings.specs.Lane.{Lane, sender_lane}
use Rattle.register_records.specs.declared.setups.Setup.{Setup}
use Rattle.register_run.specs.declared.stripes.Stripe.{Stripe}

-- the lane that feeds the converter
abbrev pub feeding_lane : Stripe → Lane
feeding_lane stripe = sender_lane stripe.feeding.value

-- the setup that the converter was started by
abbrev pub stripe_setup : Stripe → Setup
stripe_setup stripe = stripe.setup.value
