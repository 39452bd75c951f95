mod CommandSteps
